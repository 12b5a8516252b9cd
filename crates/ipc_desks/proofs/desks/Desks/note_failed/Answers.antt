use Rattle.std.proofs.Common.{ap, ◌∙◌, subst}
use Rattle.ipc_history.specs.Outcomes.{failure, timed}
use Rattle.ipc_history.specs.Threads.{now}
use Rattle.ipc_history.specs.declared.entry.Entry.TheVariants.{Written}
use Rattle.ipc_history.specs.declared.entry.Output.TheVariants.{Failed}
use Rattle.ipc_laws.proofs.Settling.{legal_push}
use Rattle.ipc_desks.specs.Steps.{Changed, finished}
use Rattle.ipc_desks.proofs.OutputDesks.{failed_finishes, failed_keeps, failed_open}
use Rattle.ipc_desks.proofs.Standings.{standing_caller}
use Rattle.ipc_desks.proofs.desks.Desks.note_failed.Goals as goal

pub place_of-place-requires : goal.place_of-place-requires
place_of-place-requires c = rw c.requires.past (failed_open c.args.self.now.past c.args.number c.args.error c.kept.ensures.legal c.requires.follows)

pub standing-call-requires-clause-open : goal.standing-call-requires-clause-open
standing-call-requires-clause-open c = rw c.requires.past (failed_open c.args.self.now.past c.args.number c.args.error c.kept.ensures.legal c.requires.follows)

pub invariant_of-self : goal.invariant_of-self
invariant_of-self c =
    let follows = rw (← c.self.view_is) at c.requires.follows in
    let past = rw (← c.self.view_is) at c.requires.past in
    let moment = rw past at c.now-moment.ensures in
    let place = rw past at c.place_of-place.ensures.place in
    rw (c.add.ensures, c.requires.entry) (record { legal = legal_push c.self.inside.past (Written (Failed c.args.number c.args.error)) c.self.invariant.legal follows; keeps = failed_keeps c.self.inside.past c.args.number c.args.error c.self.invariant.legal follows c.self.inside.taken c.self.inside.kept c.finish.new.self c.self.invariant.keeps (subst (λ p. Changed p (finished (timed (now c.self.inside.past) (failure c.args.number c.args.error))) c.self.inside.kept c.finish.new.self) place (subst (λ o. Changed c.place_of-place.result (finished o) c.self.inside.kept c.finish.new.self) (c.failure.ensures ∙ ap (λ t. timed t (failure c.args.number c.args.error)) moment) c.finish.ensures)) })

pub returns-clause-finished : goal.returns-clause-finished
returns-clause-finished c t = rw (c.standing-call.ensures, standing_caller c.args.slots.now.past c.args.number, c.requires.past) (failed_finishes c.args.self.now.past c.args.number c.args.error c.kept.ensures.legal c.requires.follows t)
