-- How a history goes on after an input.
use Rattle.std.specs.Prelude.{◌≡◌, List, ◌++◌, map}
use Rattle.ipc_history.specs.Legal.{Legal, Quiet}
use Rattle.ipc_history.specs.declared.entry.Entry.{Entry}
use Rattle.ipc_history.specs.declared.entry.Entry.TheVariants.{Written}
use Rattle.ipc_history.specs.declared.entry.Output.{Output}

-- from P to Q outputs alone were written, each the next output where it stands
pub record Continued (P Q : List Entry) : Type 0 where
  pub outputs : List Output
  pub appended : Q ≡ P ++ map Written outputs
  pub legal : Legal P → Legal Q

-- and at the end there is none
pub record Settled (P Q : List Entry) : Type 0 where
  pub outputs : List Output
  pub appended : Q ≡ P ++ map Written outputs
  pub legal : Legal P → Legal Q
  pub quiet : Quiet Q
