-- The calls of a history, by their numbers. A call that is not there has no parts: its thread ids
-- are nilthread, its lists empty.
use Rattle.std.specs.Prelude.{ℕ, List, [], Bool, Option, option_map, is_some, unwrap_or, filter_map, length}
use Rattle.ipc_words.specs.ThreadId.{nilthread}
use Rattle.ipc_items.specs.Strings.{size_of}
use Rattle.ipc_items.specs.declared.buffer_list.Substring.{Substring}
use Rattle.ipc_history.specs.CallParts.{CallParts}
use Rattle.ipc_history.specs.Words.{first_some, last_some}
use Rattle.ipc_history.specs.Entries.{number_in, number_by, call_in}
use Rattle.ipc_history.specs.declared.entry.Entry.{Entry}

-- the numbers of the calls, in the order in which they were made, so the least comes first
unfoldable pub numbers : List Entry → List ℕ
numbers P = filter_map number_in P

-- how many calls were made
unfoldable pub calls_made : List Entry → ℕ
calls_made P = length (numbers P)

-- the caller of the call n, and its parts
unfoldable pub call_at : List Entry → ℕ → Option (ℕ × CallParts)
call_at P n = first_some (call_in n) P

-- the last call that a thread made
unfoldable pub last_call : List Entry → ℕ → Option ℕ
last_call P thread = last_some (number_by thread) P

-- there is a call of this number
unfoldable pub is_called : List Entry → ℕ → Bool
is_called P n = is_some (call_at P n)

-- who made the call n, the receiver of its send phase, and its FromSpecifier as it was given
unfoldable pub caller_of : List Entry → ℕ → ℕ
caller_of P n = unwrap_or (option_map (λ c. c.0) (call_at P n)) nilthread

unfoldable pub to_of : List Entry → ℕ → ℕ
to_of P n = unwrap_or (option_map (λ c. c.1.to) (call_at P n)) nilthread

unfoldable pub from_of : List Entry → ℕ → ℕ
from_of P n = unwrap_or (option_map (λ c. c.1.from) (call_at P n)) nilthread

-- the periods of its two phases
unfoldable pub send_period_of : List Entry → ℕ → ℕ
send_period_of P n = unwrap_or (option_map (λ c. c.1.send_period) (call_at P n)) 0

unfoldable pub receive_period_of : List Entry → ℕ → ℕ
receive_period_of P n = unwrap_or (option_map (λ c. c.1.receive_period) (call_at P n)) 0

-- its message: tag, VirtualSender, untyped words and strings
unfoldable pub tag_of : List Entry → ℕ → ℕ
tag_of P n = unwrap_or (option_map (λ c. c.1.tag) (call_at P n)) 0

unfoldable pub originator_of : List Entry → ℕ → ℕ
originator_of P n = unwrap_or (option_map (λ c. c.1.originator) (call_at P n)) nilthread

unfoldable pub words_of : List Entry → ℕ → List ℕ
words_of P n = unwrap_or (option_map (λ c. c.1.words) (call_at P n)) []

unfoldable pub strings_of : List Entry → ℕ → List (List ℕ)
strings_of P n = unwrap_or (option_map (λ c. c.1.strings) (call_at P n)) []

-- its buffer strings; none where it accepts no strings
unfoldable pub buffers_of : List Entry → ℕ → List (List Substring)
buffers_of P n = unwrap_or (option_map (λ c. unwrap_or c.1.buffers []) (call_at P n)) []

-- how many bytes the strings of the message of n have
unfoldable pub message_size : List Entry → ℕ → ℕ
message_size P n = size_of (strings_of P n)
