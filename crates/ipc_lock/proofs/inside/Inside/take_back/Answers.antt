use Rattle.ipc_seats.proofs.Giving.{gives_both}
use Rattle.ipc_seats.proofs.Moves.{only_both}
use Rattle.ipc_lock.proofs.inside.Inside.take_back.Goals as goal

pub returns-clause-takes : goal.returns-clause-takes
returns-clause-takes g c = record {
  kernel_first = c.look_again.new.self.locked.kernel;
  kernel_second = c.look_again-2.new.self.locked.kernel;
  boxes_first = c.look_again.new.self.boxes.items;
  boxes_second = c.look_again-2.new.self.boxes.items;
  first = c.look_again.ensures.looks;
  second = c.look_again-2.ensures.looks;
  third = c.look_again-3.ensures.looks;
}

pub returns-clause-only : goal.returns-clause-only
returns-clause-only g c = only_both _ _ _ (only_both _ _ _ c.look_again.ensures.only c.look_again-2.ensures.only) c.look_again-3.ensures.only

pub returns-clause-gives : goal.returns-clause-gives
returns-clause-gives g c =
    gives_both _ _ _ _ _ (gives_both _ _ _ _ _ c.look_again.ensures.gives c.look_again-2.ensures.gives) c.look_again-3.ensures.gives
