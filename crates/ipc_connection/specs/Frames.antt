-- What contracts see of an IPC frame in the decoder's own memory.
use Rattle.std.specs.Prelude.{ℕ, List, []}
use Rattle.ipc_frame.specs.Parts.{IpcParts}
use Rattle.ipc_connection.specs.declared.calls.IpcHead.{IpcHead}

-- the frame of these numbers, words, buffer words and payload
abbrev pub parts_of : IpcHead → List ℕ → List ℕ → List ℕ → IpcParts
parts_of head words buffer_words payload = record {
  to = head.to;
  from = head.from;
  timeouts = head.timeouts;
  originator = head.originator;
  tag = head.tag;
  acceptor = head.acceptor;
  words = words;
  buffer_words = buffer_words;
  payload = payload;
}

-- the frame of these numbers alone
abbrev pub head_of : IpcHead → IpcParts
head_of head = parts_of head [] [] []
