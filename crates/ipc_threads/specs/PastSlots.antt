-- Slots, and the history that they are of.
use Rattle.std.specs.Prelude.{List}
use Rattle.ipc_history.specs.Legal.{Legal}
use Rattle.ipc_history.specs.declared.entry.Entry.{Entry}
use Rattle.ipc_threads.specs.Slots.{Stands}
use Rattle.ipc_threads.specs.declared.kept.KeptSlots.{KeptSlots}

-- a history, and what is kept of it
pub record PastSlots : Type 0 where
  pub past : List Entry
  pub kept : KeptSlots

-- it is a legal one, and what is kept is what it says
pub record AreOf (P : List Entry) (kept : KeptSlots) : Type 0 where
  pub legal : Legal P
  pub stands : Stands P kept
