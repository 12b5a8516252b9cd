-- What contracts see of a row of waits.
use Rattle.std.specs.Prelude.{ℕ, List}
use Rattle.ipc_waits.specs.declared.queue.Wait.{Wait}

-- its waits, and for how many memory has places
pub record RowParts : Type 0 where
  pub items : List Wait
  pub capacity : ℕ
