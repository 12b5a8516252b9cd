-- No step is made: outcomes are taken, and what is told goes out of boxes.
use Rattle.std.proofs.Common.{◌≡◌, map, take}
use Rattle.ipc_seats.specs.Boxes.{OnlyTakes}
use Rattle.ipc_seats.specs.Places.{LoadsRow, OnlyLoads, place_of}
use Rattle.ipc_lock.specs.Handing.{Hands}
use Rattle.ipc_lock.proofs.inside.Inside.load_finished.Given as goal

abbrev pub invariant-finished : goal.invariant-finished
invariant-finished g l = record {
  loads : LoadsRow (map (place_of l.fn.self.owners.items) (take l.index l.fn.self.finished.items)) l.fn.self.locked.kernel l.self.locked.kernel
      l.fn.self.boxes.items l.self.boxes.items l.fn.errands l.errands;
  owners : l.self.owners ≡ l.fn.self.owners;
  finished : l.self.finished ≡ l.fn.self.finished;
  only : OnlyTakes l.fn.self.locked.kernel l.self.locked.kernel;
  stay : OnlyLoads l.fn.self.boxes.items l.self.boxes.items;
  upkeep : l.self.upkeep ≡ l.fn.self.upkeep;
  hands : Hands l.fn.gift_log l.gift_log l.fn.errands l.errands;
}
