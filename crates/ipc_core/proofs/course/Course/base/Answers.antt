use Rattle.std.proofs.Common.{◌≡◌, ◌∙◌, ap, sym, subst}
use Rattle.ipc_history.specs.Holding.{held_of}
use Rattle.ipc_compact.specs.Compact.{base_of, kept_of}
use Rattle.ipc_core.specs.Books.{TookOthers}
use Rattle.ipc_core.specs.CourseParts.{history_of}
use Rattle.ipc_core.proofs.course.Course.base.Goals as goal

pub base_of-requires-clause-partners : goal.base_of-requires-clause-partners
base_of-requires-clause-partners c = c.self.invariant.partners_of ∙ sym c.self.invariant.course.desks_of

pub base_of-requires-clause-others : goal.base_of-requires-clause-others
base_of-requires-clause-others c =
    subst (λ H. TookOthers H c.self.inside.desks.taken) (sym c.self.invariant.course.desks_of)
    (subst (λ v. TookOthers v.entries v.taken) (sym c.self.view_is) c.requires.others)

pub base_of-requires-clause-kept : goal.base_of-requires-clause-kept
base_of-requires-clause-kept c =
    subst (λ H. c.held.result.now ≡ kept_of H c.self.inside.desks.taken) (sym c.self.invariant.course.desks_of)
    (c.held.ensures ∙ subst (λ v. held_of (history_of v) ≡ kept_of v.entries v.taken) (sym c.self.view_is) c.requires.compact)

pub returns : goal.returns
returns c =
    c.base_of.ensures ∙ ap (λ H. base_of H c.self.inside.desks.taken) c.self.invariant.course.desks_of ∙ ap (λ v. base_of v.entries v.taken) c.self.view_is
