-- What contracts see of what stands under the lock, and of the list of all that was done to it.
use Rattle.std.specs.Prelude.{ℕ, Bool, List, Option}
use Rattle.ipc_core.specs.KernelParts.{KernelParts}
use Rattle.ipc_seats.specs.Boxes.{BoxParts}
use Rattle.ipc_seats.specs.declared.events.Event.{Event}
use Rattle.ipc_seats.specs.declared.upkeep.Upkeep.{Upkeep}
use Rattle.ipc_lock.specs.declared.inside.Inside.{Inside}

-- the kernel, when memory lets go of its entries, the boxes, the box of each thread number, and the
-- numbers of all connections so far
pub record InsideParts : Type 0 where
  pub kernel : KernelParts
  pub upkeep : Upkeep
  pub boxes : List BoxParts
  pub owners : List (Option ℕ)
  pub numbers : List ℕ

abbrev pub parts_of : {C T P : Type 0} → Inside C T P → List ℕ → InsideParts
parts_of inside numbers = record {
  kernel = inside.locked.kernel;
  upkeep = inside.upkeep;
  boxes = inside.boxes.items;
  owners = inside.owners.items;
  numbers = numbers;
}

-- the same, and all that was done so far, oldest first; whether a transfer goes on, whether no more
-- can begin, whether the kernel was closed, and whether the trace waits for an entry
pub record LoggedParts : Type 0 where
  pub inside : InsideParts
  pub log : List Event
  pub begun : Bool
  pub is_work_over : Bool
  pub closed : Bool
  pub is_awaited : Bool
