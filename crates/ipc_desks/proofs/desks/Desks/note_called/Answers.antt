use Rattle.std.proofs.Common.{◌∙◌, subst, ◌==◌, ◌&&◌, arith}
use Rattle.ipc_words.specs.ThreadId.{nilthread}
use Rattle.ipc_history.specs.Threads.{now}
use Rattle.ipc_history.specs.declared.entry.Entry.TheVariants.{Given}
use Rattle.ipc_history.specs.declared.entry.Input.TheVariants.{Called}
use Rattle.ipc_laws.proofs.Settling.{legal_push}
use Rattle.ipc_desks.specs.Messages.{prepared}
use Rattle.ipc_desks.specs.Steps.{Changed, entered}
use Rattle.ipc_desks.proofs.CalledDesks.{alive, called_finishes, called_keeps, made_fits, named_once}
use Rattle.ipc_desks.proofs.desks.Desks.note_called.Goals as goal

pub place_of_thread-place-requires : goal.place_of_thread-place-requires
place_of_thread-place-requires c = alive c.args.self.now.past c.args.number c.args.caller c.args.call.now c.kept.ensures.legal c.requires.follows

pub enter-requires-clause-few : goal.enter-requires-clause-few
enter-requires-clause-few c =
    let follows = rw (← c.self.view_is) at c.requires.follows in
    rw c.place_of_thread-place.ensures.place (made_fits c.self.inside.past c.self.inside.kept c.self.inside.taken c.args.number c.args.caller c.args.call.now c.self.invariant.legal follows c.self.invariant.keeps (omega (arith, c.ranges.number.fits)))

pub invariant_of-self : goal.invariant_of-self
invariant_of-self c =
    let follows = rw (← c.self.view_is) at c.requires.follows in
    let idle = rw (← c.self.view_is) at c.requires.idle in
    let past = rw (← c.self.view_is) at c.requires.past in
    let moment = rw past at c.now-moment.ensures in
    rw (c.add.ensures, c.requires.entry) (record { legal = legal_push c.self.inside.past (Given (Called c.args.number c.args.caller c.args.call.now)) c.self.invariant.legal follows; keeps = called_keeps c.self.inside.past c.args.number c.args.caller c.args.call.now c.self.invariant.legal follows c.self.inside.taken c.self.invariant.keeps.called idle c.self.inside.kept c.enter.new.self c.self.invariant.keeps (subst (λ x. Changed x (entered (now c.self.inside.past) c.args.number c.args.call.now (prepared c.args.call.now)) c.self.inside.kept c.enter.new.self) c.place_of_thread-place.ensures.place (subst (λ x. Changed c.place_of_thread-place.result (entered (now c.self.inside.past) c.args.number c.args.call.now x) c.self.inside.kept c.enter.new.self) c.requires.copies (subst (λ x. Changed c.place_of_thread-place.result (entered x c.args.number c.args.call.now c.args.copies) c.self.inside.kept c.enter.new.self) moment c.enter.ensures))) })

pub returns-clause-finished : goal.returns-clause-finished
returns-clause-finished c t = rw (c.at_once.ensures, c.is_over_at_once.ensures) (named_once ((c.args.call.now.from == nilthread) && (c.args.call.now.to == nilthread)) c.args.caller t ∙ called_finishes c.args.self.now.past c.args.number c.args.caller c.args.call.now c.kept.ensures.legal c.requires.follows t)
