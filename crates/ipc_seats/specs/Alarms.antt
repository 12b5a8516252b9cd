-- How long a worker rests that tells the time.
use Rattle.std.specs.Prelude.{◌≡◌, ◌<◌, ◌≤◌, ◌+◌, ℕ, List, Option, Some, None, Bool, false, nat_lt, ⊤}
use Rattle.ipc_history.specs.declared.entry.Entry.{Entry}
use Rattle.ipc_seats.specs.declared.rest.Rest.{Rest}
use Rattle.ipc_seats.specs.declared.rest.Rest.TheVariants as rest
use Rattle.ipc_waits.specs.FirstDue.{IsLeastDue}

-- until the first moment at which a phase is due; until it is woken, where there is none
abbrev pub RestsUntil : Option ℕ → ℕ → Rest → Type 0
RestsUntil None now rest.Long = ⊤
RestsUntil None now other = ⊥
RestsUntil (Some due) now rest.Long = ⊥
RestsUntil (Some due) now rest.Not = due ≤ now
RestsUntil (Some due) now (rest.For micros) = (now < due) × (now + micros ≡ due)

pub record Rests (history : List Entry) (now : ℕ) (rests : Rest) : Type 0 where
  pub due : Option ℕ
  pub least : IsLeastDue history due
  pub until : RestsUntil due now rests

-- a phase is due before this moment
abbrev pub is_before : Option ℕ → ℕ → Bool
is_before None alarm = false
is_before (Some due) alarm = nat_lt due alarm

-- the ticker, which rests until a moment, is woken exactly where a phase is due before that
pub record WakesBefore (history : List Entry) (alarm : ℕ) (wakes : Bool) : Type 0 where
  pub due : Option ℕ
  pub least : IsLeastDue history due
  pub is_woken : wakes ≡ is_before due alarm
