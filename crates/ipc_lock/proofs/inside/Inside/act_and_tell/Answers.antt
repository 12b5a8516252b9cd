use Rattle.std.proofs.Common.{ap, subst}
use Rattle.std.specs.Vec.{vec_items}
use Rattle.ipc_seats.specs.Places.{OnlyLoads}
use Rattle.ipc_lock.proofs.Telling.{acts_and_tells}
use Rattle.ipc_lock.proofs.inside.Inside.act_and_tell.Goals as goal

pub returns-clause-acts : goal.returns-clause-acts
returns-clause-acts g c =
    acts_and_tells _ _ _ _ _ _ _ _ _ _ _ _ _ _ _ _ _ _ _ c.act-answered.ensures.acts c.act-answered.ensures.legal c.act-answered.ensures.finished
    c.after-after.ensures.upkeep (ap vec_items c.act-answered.ensures.owners) (ap vec_items c.act-answered.ensures.boxes) c.after-after.ensures.only c.after-after.ensures.loads

pub returns-clause-stay : goal.returns-clause-stay
returns-clause-stay g c = subst (λ b. OnlyLoads b c.after-after.new.self.boxes.items) (ap vec_items c.act-answered.ensures.boxes) c.after-after.ensures.stay
