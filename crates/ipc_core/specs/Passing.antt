-- A transfer that is appended with its end at once.
use Rattle.std.specs.Prelude.{◌≡◌, ℕ, List, [], ◌∷◌, ◌++◌, Some, ◌⊎◌}
use Rattle.ipc_history.specs.NextOutput.{next_output}
use Rattle.ipc_history.specs.declared.entry.Entry.{Entry}
use Rattle.ipc_history.specs.declared.entry.Entry.TheVariants.{Written}
use Rattle.ipc_history.specs.declared.entry.Output.{Output}
use Rattle.ipc_history.specs.declared.entry.Output.TheVariants.{Began, Ended}

-- the output begins a transfer, its end comes next after it, and both were appended
pub record HasPassed (H : List Entry) (output : Output) (K : List Entry) : Type 0 where
  pub sending : ℕ
  pub receiving : ℕ
  pub begins : output ≡ Began sending receiving
  pub ends : next_output (H ++ Written output ∷ []) ≡ Some (Ended sending receiving)
  pub appended : K ≡ (H ++ Written output ∷ []) ++ Written (Ended sending receiving) ∷ []

-- the output was appended, alone or with its end
abbrev pub IsWritten : List Entry → Output → List Entry → Type 0
IsWritten H output K = (K ≡ H ++ Written output ∷ []) ⊎ HasPassed H output K
