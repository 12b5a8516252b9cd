use Rattle.std.proofs.Common.{ap}
use Rattle.std.specs.Vec.{vec_items}
use Rattle.ipc_seats.proofs.Moves.{loads_both, only_both}
use Rattle.ipc_seats.proofs.Rows.{row_first}
use Rattle.ipc_lock.proofs.Handed.{hands_both}
use Rattle.ipc_lock.proofs.inside.Inside.gather.Goals as goal

pub returns-clause-loads : goal.returns-clause-loads
returns-clause-loads g c =
    row_first c.args.own _ _ _ _ c.args.self.now.locked.kernel c.load_own.new.self.locked.kernel _ c.args.self.now.boxes.items c.load_own.new.self.boxes.items _ c.args.errands.now c.load_own.new.errands _
    (ap vec_items c.load_own.ensures.owners) (ap vec_items c.load_own.ensures.finished) c.load_own.ensures.loads c.load_finished.ensures.loads

pub returns-clause-only : goal.returns-clause-only
returns-clause-only g c = only_both _ _ _ c.load_own.ensures.only c.load_finished.ensures.only

pub returns-clause-stay : goal.returns-clause-stay
returns-clause-stay g c = loads_both _ _ _ c.load_own.ensures.stay c.load_finished.ensures.stay

pub returns-clause-hands : goal.returns-clause-hands
returns-clause-hands g c = hands_both _ _ _ _ _ _ c.load_own.ensures.hands c.load_finished.ensures.hands
