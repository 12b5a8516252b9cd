-- Where a list of entries stops to be a legal history.
use Rattle.std.specs.Prelude.{◌≡◌, ℕ, ◌+◌, ◌<◌, List, ◌++◌, length, take, Option, ⊤}
use Rattle.ipc_history.specs.NextOutput.{next_output}
use Rattle.ipc_history.specs.Legal.{Legal}
use Rattle.ipc_history.specs.declared.entry.Entry.{Entry}
use Rattle.ipc_history.specs.declared.entry.Output.{Output}
use Rattle.ipc_check.specs.declared.checker.Verdict.{Verdict}
use Rattle.ipc_check.specs.declared.checker.Verdict.TheVariants.{Yes, No}

-- the entries before the place are legal, those up to it are not, and this is the output that the
-- rules ask for there
pub record IsFirstFault (H : List Entry) (index : ℕ) (expected : Option Output) : Type 0 where
  pub within : index < length H
  pub before : Legal (take index H)
  pub fault : Legal (take (index + 1) H) → ⊥
  pub told : expected ≡ next_output (take index H)

-- the first fault is at this place
abbrev pub HasFaultAt : List Entry → ℕ → Type 0
HasFaultAt H index = (expected : Option Output) × IsFirstFault H index expected

-- behind a past: with the entries before the place it is legal, with those up to it not, and this
-- is the output that the rules ask for there
pub record IsFirstFaultAfter (P H : List Entry) (index : ℕ) (expected : Option Output) : Type 0 where
  pub within : index < length H
  pub before : Legal (P ++ take index H)
  pub fault : Legal (P ++ take (index + 1) H) → ⊥
  pub told : expected ≡ next_output (P ++ take index H)

-- what a no says
abbrev pub IfNo : Verdict → (ℕ → Option Output → Type 0) → Type 0
IfNo Yes fact = ⊤
IfNo (No index expected) fact = fact index expected
