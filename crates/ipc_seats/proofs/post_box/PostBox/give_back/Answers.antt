use Rattle.std.proofs.Common.{◌≡◌, true, subst}
use Rattle.ipc_seats.specs.Boxes.{BoxParts, is_own}
use Rattle.ipc_seats.proofs.Giving.{own_of_box}
use Rattle.ipc_seats.proofs.post_box.PostBox.give_back.Goals as goal

pub returns-clause-own : goal.returns-clause-own
returns-clause-own g c =
    own_of_box c.args.self.now c.clear.result c.args.number _ c.clear.ensures.pen
    (subst (λ (b : BoxParts). is_own b.pen b.place b.number ≡ true) c.self.view_is c.self.invariant) c.is_of-is_its.ensures c.if-not-is_its.false
