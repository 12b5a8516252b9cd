use Rattle.std.proofs.Common.{subst}
use Rattle.ipc_history.specs.declared.entry.Entry.TheVariants.{Given}
use Rattle.ipc_history.specs.declared.entry.Input.TheVariants.{Broke}
use Rattle.ipc_laws.proofs.Settling.{legal_push}
use Rattle.ipc_threads.proofs.ThreadSteps.{broke_live}
use Rattle.ipc_desks.specs.Steps.{Changed, left}
use Rattle.ipc_desks.proofs.QuietEntries.{broke_finishes, broke_keeps}
use Rattle.ipc_desks.proofs.desks.Desks.note_broke.Goals as goal

pub place_of_thread-place-requires : goal.place_of_thread-place-requires
place_of_thread-place-requires c = broke_live c.args.self.now.past c.args.thread c.requires.follows

pub invariant_of-self : goal.invariant_of-self
invariant_of-self c =
    let follows = rw (← c.self.view_is) at c.requires.follows in
    rw (c.add.ensures, c.requires.entry) (record { legal = legal_push c.self.inside.past (Given (Broke c.args.thread)) c.self.invariant.legal follows; keeps = broke_keeps c.self.inside.past c.args.thread c.self.invariant.legal follows c.self.inside.taken c.self.inside.kept c.leave.new.self c.self.invariant.keeps (subst (λ p. Changed p left c.self.inside.kept c.leave.new.self) c.place_of_thread-place.ensures.place c.leave.ensures) })

pub returns-clause-finished : goal.returns-clause-finished
returns-clause-finished c t = broke_finishes c.args.self.now.past c.args.thread c.kept.ensures.legal c.requires.follows t
