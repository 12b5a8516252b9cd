-- The copy of a message that is handed to its receiver.
use Rattle.std.specs.Prelude.{ℕ, ◌+◌, ◌*◌, ◌≤◌, List, [], ◌++◌, Bool, ◌&&◌, ◌==◌, length, unwrap_or, if◌then◌else◌}
use Rattle.ipc_words.specs.MsgTag.{propagates}
use Rattle.ipc_words.specs.TagFields.{received_tag}
use Rattle.ipc_words.specs.ThreadId.{nilthread}
use Rattle.ipc_items.specs.Pieces.{simple_items}
use Rattle.ipc_items.specs.declared.buffer_list.Substring.{Substring}
use Rattle.ipc_history.specs.CallParts.{CallParts}
use Rattle.ipc_history.specs.Calls.{tag_of, originator_of, words_of, strings_of}
use Rattle.ipc_history.specs.Outcomes.{OutcomeParts}
use Rattle.ipc_history.specs.declared.entry.Entry.{Entry}

-- a message: its tag, its VirtualSender, its untyped words, and its strings
pub record MessageParts : Type 0 where
  pub tag : ℕ
  pub originator : ℕ
  pub words : List ℕ
  pub strings : List (List ℕ)

-- so many words leave room, in a vector of a capacity, for two more words for each string
abbrev pub HasRoom : ℕ → List (List ℕ) → ℕ → Type 0
HasRoom words strings capacity = words + 2 * length strings ≤ capacity

-- the message of the call n
unfoldable pub message_of : List Entry → ℕ → MessageParts
message_of H n = record { tag = tag_of H n; originator = originator_of H n; words = words_of H n; strings = strings_of H n }

-- what is copied of a call before it is entered: its message, and its buffer strings
pub record PreparedParts : Type 0 where
  pub message : MessageParts
  pub buffers : List (List Substring)

abbrev pub message_in : CallParts → MessageParts
message_in call = record { tag = call.tag; originator = call.originator; words = call.words; strings = call.strings }

abbrev pub prepared : CallParts → PreparedParts
prepared call = record { message = message_in call; buffers = unwrap_or call.buffers [] }

-- a message is propagated where its tag says so and its receiver is shown its VirtualSender
abbrev pub is_shown : MessageParts → ℕ → Bool
is_shown message shown = propagates message.tag && (message.originator == shown)

-- what the call m is told of a message whose caller is this one and which shows that one
abbrev pub delivered : ℕ → MessageParts → ℕ → ℕ → List (List Substring) → OutcomeParts
delivered m message caller shown buffers = record {
  call = m;
  moment = 0;
  tag = received_tag message.tag (2 * length message.strings) (is_shown message shown);
  sender = shown;
  actual = if is_shown message shown then caller else nilthread;
  error = 0;
  words = message.words ++ simple_items buffers message.strings;
  strings = message.strings;
  buffers = buffers;
}
