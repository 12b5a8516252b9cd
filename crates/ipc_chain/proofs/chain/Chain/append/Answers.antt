use Rattle.std.proofs.Common.{◌∙◌, ◌++◌, ◌∷◌, [], sym, ap, subst}
use Rattle.ipc_history.specs.Legal.{Follows}
use Rattle.ipc_core.specs.CourseParts.{ComesIdle}
use Rattle.ipc_chain.proofs.Keeping.{judged_more}
use Rattle.ipc_chain.proofs.chain.Chain.append.Goals as goal

pub invariant_of-self-2 : goal.invariant_of-self-2
invariant_of-self-2 c = judged_more c.self.inside.history c.push.new.self c.self.inside.slots c.note-3.new.self c.self.inside.desks c.note.new.desks c.self.inside.partners c.note-2.new.self c.self.inside.takes c.args.entry c.self.invariant
    (subst (λ v. Follows v.past c.args.entry) (sym c.self.view_is) c.requires.follows)
    (subst (λ v. ComesIdle v.past v.taken c.args.entry) (sym c.self.view_is) c.requires.idle)
    (c.push.ensures.entries ∙ ap (λ l. l ++ c.args.entry ∷ []) c.in_ok-reserve.ensures.entries)
    (c.push.ensures.held ∙ c.in_ok-reserve.ensures.held)
    c.note-3.ensures.past c.note.ensures.past c.note.ensures.taken c.note-2.ensures
