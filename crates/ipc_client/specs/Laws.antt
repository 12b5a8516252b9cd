-- What holds of every message and buffers that are laid out.
use Rattle.std.specs.Prelude.{◌≡◌, ℕ, ◌≤◌, List, None, Ok, length, drop}
use Rattle.ipc_words.specs.Limits.{max_buffer_words}
use Rattle.ipc_items.specs.Strings.{AreStrings}
use Rattle.ipc_items.specs.StringItem.{string_reading}
use Rattle.ipc_frame.specs.Making.{ipc_fault}
use Rattle.ipc_client.specs.Messages.{BufferParts, ipc_of}
use Rattle.ipc_client.specs.Building.{message_of, message_fault}

-- the typed words of a message, over its payload, spell the strings that it was made of
abbrev pub LaidOutStringsAreRead : Type 0
LaidOutStringsAreRead =
    (label : ℕ) (words : List ℕ) (strings : List (List ℕ)) → AreStrings strings
    → string_reading (drop (length words) (message_of label words strings).words)
    (message_of label words strings).payload ≡ Ok strings

-- a message that was made is within the limits of a frame, whatever buffers stand beside it
abbrev pub MessagesFitFrames : Type 0
MessagesFitFrames =
    (label : ℕ) (words : List ℕ) (strings : List (List ℕ)) (to from timeouts : ℕ) (buffers : BufferParts)
    → AreStrings strings → message_fault label words strings ≡ None → length buffers.words ≤ max_buffer_words
    → ipc_fault (ipc_of to from timeouts (message_of label words strings) buffers) ≡ None
