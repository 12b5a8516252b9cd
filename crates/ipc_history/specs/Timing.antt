-- Which waiting phase is due (L4 X.2 manual, Ipc: timeouts). Our choice (docs/PROFILE.md): the
-- clock is handed in, and no timeout ends a transfer that has begun.
use Rattle.std.specs.Prelude.{ℕ, List, Bool, false, ◌+◌, ◌&&◌, ◌||◌, nat_le, ◌==◌, if◌then◌else◌}
use Rattle.std.specs.Option.{option_map_or}
use Rattle.ipc_words.specs.ThreadId.{nilthread}
use Rattle.ipc_words.specs.Time.{span}
use Rattle.ipc_history.specs.Words.{before}
use Rattle.ipc_history.specs.Entries.{ends_send}
use Rattle.ipc_history.specs.Calls.{to_of, send_period_of, receive_period_of}
use Rattle.ipc_history.specs.Threads.{now}
use Rattle.ipc_history.specs.Phases.{is_sending, is_receiving}
use Rattle.ipc_history.specs.Matching.{before_call}
use Rattle.ipc_history.specs.declared.entry.Entry.{Entry}

-- the entries before Ended(n, ·)
unfoldable pub before_sent : List Entry → ℕ → List Entry
before_sent P n = before (ends_send n) P

-- the moment at which the receive phase of n began
unfoldable pub receive_start : List Entry → ℕ → ℕ
receive_start P n = now (if to_of P n == nilthread then before_call P n else before_sent P n)

-- at a moment, a period that began at the moment start is past; never is never
unfoldable pub is_past : ℕ → ℕ → ℕ → Bool
is_past moment start period = option_map_or (λ micros. nat_le (start + micros) moment) (span period) false

-- at a moment, the waiting phase of n is due: a send phase began with the call, a receive phase
-- with the call or where the send phase ended
unfoldable pub is_due_at : List Entry → ℕ → ℕ → Bool
is_due_at P moment n =
    (is_sending P n && is_past moment (now (before_call P n)) (send_period_of P n))
    || (is_receiving P n && is_past moment (receive_start P n) (receive_period_of P n))

-- and so at the moment of the history
unfoldable pub is_due : List Entry → ℕ → Bool
is_due P n = is_due_at P (now P) n
