use Rattle.std.proofs.Common.{ap, refl, ◌∙◌}
use Rattle.std.specs.Vec.{vec_capacity}
use Rattle.ipc_lock.proofs.Above.{notes_on}
use Rattle.ipc_lock.proofs.inside.Inside.act_open.Goals as goal

pub returns-clause-finished : goal.returns-clause-finished
returns-clause-finished g c =
    notes_on _ _ _ _ _ _ _ _ _ _ _ _ refl c.let_go.ensures.lets_go c.clear.ensures.items
    (c.clear.ensures.capacity ∙ ap vec_capacity c.let_go.ensures.finished) c.act_open-opened.ensures.notes
