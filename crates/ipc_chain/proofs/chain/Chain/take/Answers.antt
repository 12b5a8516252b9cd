use Rattle.std.proofs.Common.{◌≡◌, ◌∙◌, refl, sym, ap, subst, true}
use Rattle.ipc_history.specs.Threads.{is_live}
use Rattle.ipc_desks.specs.CallsOf.{outcome_to_take}
use Rattle.ipc_chain.specs.Judging.{TakesLast}
use Rattle.ipc_chain.proofs.Keeping.{judged_same, judged_taken}
use Rattle.ipc_chain.proofs.Taking.{takes_none}
use Rattle.ipc_chain.proofs.chain.Chain.take.Goals as goal

pub invariant_of-self : goal.invariant_of-self
invariant_of-self c = judged_taken c.self.inside.history c.self.inside.slots c.self.inside.desks c.take.new.self c.self.inside.partners c.self.inside.takes c.in-Some.outcome.call c.self.invariant c.take.ensures.past c.in-Some.ensures.some

pub invariant_of-self-in-None : goal.invariant_of-self-in-None
invariant_of-self-in-None c = judged_same c.self.inside.history c.self.inside.slots c.self.inside.desks c.take.new.self c.self.inside.partners c.self.inside.takes c.self.invariant c.take.ensures.past (c.in-None.ensures.none refl)

pub returns-in-None-clause-taken : goal.returns-in-None-clause-taken
returns-in-None-clause-taken c =
    subst (λ v. TakesLast v.past c.args.thread v.taken c.take.new.self.taken) c.self.view_is
    (takes_none c.self.inside.history.entries c.args.thread c.self.inside.desks.taken c.take.new.self.taken c.self.invariant.legal (subst (λ v. is_live v.past c.args.thread ≡ true) (sym c.self.view_is) c.requires) (c.in-None.ensures.given ∙ ap (λ l. outcome_to_take l c.self.inside.desks.taken c.args.thread) c.self.invariant.desks_of) (c.in-None.ensures.none refl))
