use Rattle.std.proofs.Common.{◌∙◌, ap, sym, subst, vec_capacity}
use Rattle.ipc_history.specs.Holding.{marked_to}
use Rattle.ipc_history.specs.HistoryParts.{HistoryParts}
use Rattle.ipc_core.specs.CourseParts.{CourseParts}
use Rattle.ipc_core.specs.Invariants.{IsHeldCourse}
use Rattle.ipc_core.proofs.course.Course.mark.Goals as goal

pub invariant_of-self : goal.invariant_of-self
invariant_of-self c =
    let was = c.self.invariant in
    subst (λ h. IsHeldCourse h c.self.inside.waiting.value c.self.inside.desks c.self.inside.partners c.self.inside.takes c.self.inside.since c.self.inside.finished.items (vec_capacity c.self.inside.finished)) (sym c.mark.ensures) (record { course = was.course; front = was.front; partners_of = was.partners_of; counted = was.counted; kept = was.kept })

pub returns : goal.returns
returns c =
    ap (λ (h : HistoryParts). record { entries = h.entries; held = h.held; room = h.room; taken = c.self.inside.desks.taken; since = c.self.inside.since; finished = c.self.inside.finished.items }) c.mark.ensures
    ∙ ap (λ (v : CourseParts). record v { held = marked_to c.args.upto v.held }) c.self.view_is
