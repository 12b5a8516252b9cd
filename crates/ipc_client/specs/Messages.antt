-- What a call brings (L4 X.2 manual, Ipc: MR0 to MR63 and BR0 to BR32), and the frame that asks for
-- it.
use Rattle.std.specs.Prelude.{ℕ, List, []}
use Rattle.ipc_frame.specs.Parts.{IpcParts}

-- a message: tag, VirtualSender, words, payload
pub record MessageParts : Type 0 where
  pub tag : ℕ
  pub sender : ℕ
  pub words : List ℕ
  pub payload : List ℕ

-- buffers: acceptor and words
pub record BufferParts : Type 0 where
  pub acceptor : ℕ
  pub words : List ℕ

abbrev pub no_message : MessageParts
no_message = record { tag = 0; sender = 0; words = []; payload = [] }

abbrev pub no_buffers : BufferParts
no_buffers = record { acceptor = 0; words = [] }

-- the call: all is put into the frame as it is
abbrev pub ipc_of : ℕ → ℕ → ℕ → MessageParts → BufferParts → IpcParts
ipc_of to from timeouts message buffers = record {
  to = to;
  from = from;
  timeouts = timeouts;
  originator = message.sender;
  tag = message.tag;
  acceptor = buffers.acceptor;
  words = message.words;
  buffer_words = buffers.words;
  payload = message.payload;
}
