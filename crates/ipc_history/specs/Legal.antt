-- What may follow, and what a history is.
use Rattle.std.specs.Prelude.{◌≡◌, ℕ, ◌+◌, List, ◌∷◌, ◌++◌, Bool, false, ◌&&◌, not}
use Rattle.std.specs.Prelude.{Option, Some, None, find, is_none, IsTrue, nat_lt, nat_le, ◌==◌}
use Rattle.std.specs.Option.{option_map_or}
use Rattle.ipc_words.specs.Limits.{max_thread_number, max_space, last_moment}
use Rattle.ipc_words.specs.ThreadId.{number_of, version_of}
use Rattle.ipc_words.specs.Control.{is_masked}
use Rattle.ipc_history.specs.CallParts.{is_normal}
use Rattle.ipc_history.specs.Calls.{numbers, calls_made}
use Rattle.ipc_history.specs.Threads.{now, is_live, is_taken, next_version}
use Rattle.ipc_history.specs.Phases.{receiver_of, open_call, is_transferring}
use Rattle.ipc_history.specs.Blocks.{block_of}
use Rattle.ipc_history.specs.NextOutput.{next_output}
use Rattle.ipc_history.specs.declared.entry.Entry.{Entry}
use Rattle.ipc_history.specs.declared.entry.Entry.TheVariants.{Given, Written}
use Rattle.ipc_history.specs.declared.entry.Input.{Input}
use Rattle.ipc_history.specs.declared.entry.Input.TheVariants.{At, Opened, Called, Exreg, Broke, Moved}

-- a quiet history has no next output
abbrev pub Quiet : List Entry → Type 0
Quiet P = next_output P ≡ None

-- a thread is free where it is live and has no open call
unfoldable pub is_free : List Entry → ℕ → Bool
is_free P thread = is_live P thread && is_none (open_call P thread)

-- the sending call whose bytes are copied next: the least in transfer
unfoldable pub next_moving : List Entry → Option ℕ
next_moving P = find (λ n. option_map_or (is_transferring P n) (receiver_of P n) false) (numbers P)

-- a number within its limit that is not taken opens with its next version, in a space within its
-- limit
unfoldable pub may_open : List Entry → ℕ → ℕ → Bool
may_open P thread space =
    nat_le 1 (number_of thread)
    && nat_le (number_of thread) max_thread_number
    && not (is_taken P (number_of thread))
    && option_map_or (λ version. version == version_of thread) (next_version P (number_of thread)) false
    && nat_le 1 space
    && nat_le space max_space

-- a copy is of the least call in transfer: its next block
unfoldable pub may_move : List Entry → ℕ → ℕ → Bool
may_move P n count = option_map_or (λ k. k == n) (next_moving P) false && (count == block_of P n)

-- which inputs may follow a quiet history: a later moment; an open; a call in normal form, of a
-- free thread, with the next number; an ExchangeRegisters of a free thread; the break of a live
-- thread; a copy
unfoldable pub is_admissible : List Entry → Input → Bool
is_admissible P (At moment) = nat_lt (now P) moment && nat_lt moment (last_moment + 1)
is_admissible P (Opened thread space) = may_open P thread space
is_admissible P (Called n thread call) = is_free P thread && (n == calls_made P + 1) && is_normal call
is_admissible P (Exreg thread target control) = is_free P thread && is_masked control
is_admissible P (Broke thread) = is_live P thread
is_admissible P (Moved n count) = may_move P n count

-- an output follows where it is the next output; an input where there is none and the input is
-- admissible
unfoldable pub Follows : List Entry → Entry → Type 0
Follows P (Written output) = next_output P ≡ Some output
Follows P (Given input) = Quiet P × IsTrue (is_admissible P input)

-- a history is legal where each entry follows the entries before it
unfoldable pub Legal : List Entry → Type 0
Legal H = (P : List Entry) (e : Entry) (rest : List Entry) → H ≡ P ++ e ∷ rest → Follows P e
