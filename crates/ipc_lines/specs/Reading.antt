-- What a reader of lines takes apart, and which values it can give back: those of the types.
use Rattle.std.specs.Prelude.{ℕ, ◌+◌, ◌*◌, ◌%◌, ◌^◌, ◌<◌, ◌≢◌, ◌||◌, [], ◌∷◌, ◌==◌}
use Rattle.std.specs.Prelude.{IsTrue, Bool, List, map, IfSome}
use Rattle.std.specs.Borrow.{Bor}
use Rattle.std.specs.List.{All, slice_split}
use Rattle.hex.specs.Hex.{IsBytes}
use Rattle.ipc_words.specs.ThreadId.{nilthread, anythread, anylocalthread}
use Rattle.ipc_words.specs.Control.{is_masked}
use Rattle.ipc_items.specs.declared.buffer_list.Substring.{Substring}
use Rattle.ipc_items.specs.Strings.{AreStrings}
use Rattle.ipc_items.specs.Buffers.{AreBuffers}
use Rattle.ipc_history.specs.CallParts.{CallParts, is_normal}
use Rattle.ipc_lines.specs.Texts.{hex_text, id_text, timeouts_text}
use Rattle.ipc_lines.specs.declared.call_reading.Numbers.{Numbers}
use Rattle.ipc_history.specs.declared.entry.Entry.{Entry}
use Rattle.ipc_history.specs.declared.entry.Entry.TheVariants.{Given, Written}
use Rattle.ipc_history.specs.declared.entry.Input.TheVariants.{At, Opened, Called, Exreg, Broke, Moved}
use Rattle.ipc_history.specs.declared.entry.Output.TheVariants.{Began, Turned, Ended, Overflowed, Aborted, Failed}

-- the bytes that fields show
abbrev pub texts_of : List (Bor (List ℕ)) → List (List ℕ)
texts_of fields = map (λ field. field.now) fields

-- what stands between the separators
abbrev pub parts_at : ℕ → List ℕ → List (List ℕ)
parts_at separator text = slice_split (λ byte. byte == separator) text

-- the numbers of a call, and the thread that calls
abbrev pub numbers_of : ℕ → CallParts → Numbers
numbers_of thread call = record {
  thread = thread;
  to = call.to;
  from = call.from;
  send_period = call.send_period;
  receive_period = call.receive_period;
  tag = call.tag;
  originator = call.originator;
}

-- the fields that spell them
abbrev pub number_fields : Numbers → List (List ℕ)
number_fields read =
    id_text read.thread ∷ id_text read.to ∷ id_text read.from
    ∷ timeouts_text read.send_period read.receive_period ∷ hex_text read.tag
    ∷ id_text read.originator ∷ []

-- a thread id that has a name
abbrev pub is_named : ℕ → Bool
is_named id = (id == nilthread) || (id == anythread) || (id == anylocalthread)

-- a thread id that is spelled as its number and its version
abbrev pub IsNumbered : ℕ → Type 0
IsNumbered id = (id % 64 ≢ 0) × (id ≢ anythread)

-- a number of 64 bits
abbrev pub IsWord : ℕ → Type 0
IsWord n = n < 2 ^ 64

abbrev pub AreWords : List ℕ → Type 0
AreWords words = All IsWord words

-- a substring whose length and pointer are words
abbrev pub IsSubstring : Substring → Type 0
IsSubstring part = IsWord part.length × IsWord part.pointer

-- strings of bytes within the limits of a message
abbrev pub IsStringList : List (List ℕ) → Type 0
IsStringList strings = AreStrings strings × All IsBytes strings

-- buffer strings of substrings within the limits of a call
abbrev pub IsBufferList : List (List Substring) → Type 0
IsBufferList buffers = AreBuffers buffers × All (λ parts. All IsSubstring parts) buffers

-- a call in normal form and within the limits
pub record IsCall (thread : ℕ) (call : CallParts) : Type 0 where
  pub thread_word : IsWord thread
  pub to : IsWord call.to
  pub from : IsWord call.from
  pub send_period : call.send_period < 2 ^ 15
  pub receive_period : call.receive_period < 2 ^ 15
  pub tag : IsWord call.tag
  pub originator : IsWord call.originator
  pub words : AreWords call.words
  pub strings : IsStringList call.strings
  pub buffers : IfSome call.buffers IsBufferList
  pub normal : IsTrue (is_normal call)

-- an entry of words, of a control with no bit but R and S, and of a call in normal form and within
-- the limits
abbrev pub IsReadable : Entry → Type 0
IsReadable (Given (At moment)) = IsWord moment
IsReadable (Given (Opened thread space)) = IsWord thread × IsWord space
IsReadable (Given (Called number thread call)) = IsWord number × IsCall thread call
IsReadable (Given (Exreg thread dest control)) =
    IsWord thread × IsWord dest × IsTrue (is_masked control)
IsReadable (Given (Broke thread)) = IsWord thread
IsReadable (Given (Moved number count)) = IsWord number × IsWord count
IsReadable (Written (Began sending receiving)) = IsWord sending × IsWord receiving
IsReadable (Written (Turned receiving thread)) = IsWord receiving × IsWord thread
IsReadable (Written (Ended sending receiving)) = IsWord sending × IsWord receiving
IsReadable (Written (Overflowed sending receiving offset)) =
    IsWord sending × IsWord receiving × IsWord offset
IsReadable (Written (Aborted sending receiving count)) =
    IsWord sending × IsWord receiving × IsWord count
IsReadable (Written (Failed number code)) = IsWord number × IsWord code
