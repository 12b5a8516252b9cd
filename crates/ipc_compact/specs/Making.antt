-- The slots of a past, made from its base and what was kept of it.
use Rattle.std.specs.Prelude.{◌≡◌, ◌<◌, ◌^◌, ℕ, List, Bool, Option, Some, None, option_and_then, not, ◌&&◌, ◌==◌, if◌then◌else◌}
use Rattle.ipc_history.specs.Calls.{caller_of}
use Rattle.ipc_history.specs.Entries.{number_in}
use Rattle.ipc_history.specs.Legal.{Legal, Quiet}
use Rattle.ipc_history.specs.Phases.{is_over, moved_bytes}
use Rattle.ipc_history.specs.declared.entry.Entry.{Entry}
use Rattle.ipc_compact.specs.Compact.{Base, compact, is_among}

-- a call is the open one of a thread, where these calls count as over
abbrev pub is_open_from : List Entry → List ℕ → ℕ → ℕ → Bool
is_open_from K over t n = (caller_of K n == t) && not (is_over K n) && not (is_among n over)

-- the number of the call that an entry enters, where that is so
abbrev pub open_in : List Entry → List ℕ → ℕ → Entry → Option ℕ
open_in K over t e = option_and_then (λ n. if is_open_from K over t n then Some n else None) (number_in e)

-- no call has copied more bytes than a number holds
abbrev pub Fit : List Entry → Type 0
Fit K = (n : ℕ) → moved_bytes K n < 2 ^ 64

-- a past, and the calls whose outcome was taken
pub record Before : Type 0 where
  pub past : List Entry
  pub taken : List ℕ

-- a legal and quiet past has this base, and of it these entries are kept
pub record IsCompactOf (base : Base) (kept : List Entry) (before : Before) : Type 0 where
  pub legal : Legal before.past
  pub quiet : Quiet before.past
  pub compact : compact before.past before.taken ≡ record { base = base; kept = kept }
