-- In which phase a call is (L4 X.2 manual, Ipc: the send phase comes first; if it fails there is no
-- receive phase).
use Rattle.std.specs.Prelude.{ℕ, List, Bool, false, ◌&&◌, ◌||◌, not, Option, filter, find, is_none, sum_by, ◌==◌}
use Rattle.std.specs.List.{list_any}
use Rattle.std.specs.Option.{option_map_or}
use Rattle.ipc_words.specs.ThreadId.{nilthread}
use Rattle.ipc_history.specs.Words.{first_some}
use Rattle.ipc_history.specs.Entries.{count_in, receiver_in, sender_in, ends_send, ends, closes}
use Rattle.ipc_history.specs.Calls.{numbers, caller_of, to_of, from_of}
use Rattle.ipc_history.specs.Threads.{has_broken}
use Rattle.ipc_history.specs.declared.entry.Entry.{Entry}

-- the send phase of n was successful
unfoldable pub is_sent : List Entry → ℕ → Bool
is_sent P n = list_any (ends_send n) P

-- the call that the transfer of n goes to, and the call that the transfer to m comes from
unfoldable pub receiver_of : List Entry → ℕ → Option ℕ
receiver_of P n = first_some (receiver_in n) P

unfoldable pub sender_of : List Entry → ℕ → Option ℕ
sender_of P m = first_some (sender_in m) P

-- n is over: an entry closed it; its caller ended; its send phase ended and it has no receive
-- phase; it has neither phase
unfoldable pub is_over : List Entry → ℕ → Bool
is_over P n =
    list_any (closes n) P
    || has_broken P (caller_of P n)
    || ((from_of P n == nilthread) && (is_sent P n || (to_of P n == nilthread)))

-- the numbers of the open calls, the least first
unfoldable pub open_numbers : List Entry → List ℕ
open_numbers P = filter (λ n. not (is_over P n)) (numbers P)

-- the open call of a thread: the one that is not over
unfoldable pub open_call : List Entry → ℕ → Option ℕ
open_call P thread = find (λ n. (caller_of P n == thread) && not (is_over P n)) (numbers P)

-- the send phase of n waits
unfoldable pub is_sending : List Entry → ℕ → Bool
is_sending P n = not (to_of P n == nilthread) && is_none (receiver_of P n) && not (is_over P n)

-- the transfer from n to m has begun and goes on
unfoldable pub is_transferring : List Entry → ℕ → ℕ → Bool
is_transferring P n m =
    option_map_or (λ k. k == m) (receiver_of P n) false
    && not (list_any (ends n m) P)
    && not (is_over P n)
    && not (is_over P m)

-- how many bytes of the message of n were copied
unfoldable pub moved_bytes : List Entry → ℕ → ℕ
moved_bytes P n = sum_by (count_in n) P

-- the receive phase of m waits: it has one, and its send phase, if it has one, was successful
unfoldable pub is_receiving : List Entry → ℕ → Bool
is_receiving P m =
    not (from_of P m == nilthread)
    && ((to_of P m == nilthread) || is_sent P m)
    && is_none (sender_of P m)
    && not (is_over P m)
