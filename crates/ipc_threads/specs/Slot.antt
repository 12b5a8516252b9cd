-- What a history says of one thread number.
use Rattle.std.specs.Prelude.{ℕ, Option}
use Rattle.ipc_threads.specs.declared.slot.Live.{Live}

-- the version that the next thread of the number gets, and its live thread
pub record Slot : Type 0 where
  pub version : Option ℕ
  pub live : Option Live
