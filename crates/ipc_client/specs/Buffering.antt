-- Buffer strings, laid out for their frame.
use Rattle.std.specs.Prelude.{ℕ, ◌*◌, Bool, List, [], ◌∷◌, length, Option, Some, None, nat_lt, nat_le, if◌then◌else◌}
use Rattle.std.specs.List.{list_any}
use Rattle.ipc_words.specs.Limits.{max_buffer_words, substring_length_limit}
use Rattle.ipc_items.specs.declared.buffer_list.Substring.{Substring}
use Rattle.ipc_client.specs.Messages.{BufferParts}
use Rattle.ipc_client.specs.declared.message_fault.BufferFault.{BufferFault}
use Rattle.ipc_client.specs.declared.message_fault.BufferFault.TheVariants.{TooManyWords, TooLong}

-- a simple item for each substring
abbrev pub buffer_words : List Substring → List ℕ
buffer_words [] = []
buffer_words (part ∷ parts) = part.length * 1024 ∷ part.pointer ∷ buffer_words parts

-- strings are accepted
abbrev pub buffers_of : List Substring → BufferParts
buffers_of parts = record { acceptor = 1; words = buffer_words parts }

-- one buffer string, with pointer 0
abbrev pub buffer_of : ℕ → List Substring
buffer_of length = record { length = length; pointer = 0 } ∷ []

abbrev pub is_long : Substring → Bool
is_long part = nat_le substring_length_limit part.length

-- more words than BR1 to BR32 hold; else a length past its limit
abbrev pub buffer_fault : List Substring → Option BufferFault
buffer_fault parts =
    (if nat_lt max_buffer_words (2 * length parts) then Some TooManyWords
    else if list_any is_long parts then Some TooLong else None)
