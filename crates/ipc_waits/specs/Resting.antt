-- Whom a thread lets in of the sends that wait for it.
use Rattle.std.specs.Prelude.{ℕ, List, Bool}
use Rattle.std.specs.List.{list_any}
use Rattle.ipc_history.specs.Matching.{shown_sender}
use Rattle.ipc_history.specs.declared.entry.Entry.{Entry}
use Rattle.ipc_laws.specs.Exchange.{lets_in}
use Rattle.ipc_waits.specs.declared.queue.Wait.{Wait}

-- a thread that waits with this FromSpecifier lets in the call of a wait
abbrev pub lets_wait_in : List Entry → ℕ → ℕ → Wait → Bool
lets_wait_in P from thread w = lets_in P from thread (shown_sender P w.number)

-- or of one of these
abbrev pub lets_any_in : List Entry → ℕ → ℕ → List Wait → Bool
lets_any_in P from thread waits = list_any (lets_wait_in P from thread) waits
