use Rattle.ipc_laws.proofs.Settling.{legal_push}
use Rattle.ipc_history.specs.declared.entry.Entry.TheVariants.{Given}
use Rattle.ipc_history.specs.declared.entry.Input.TheVariants.{At}
use Rattle.ipc_threads.proofs.ThreadSteps.{noted_at}
use Rattle.ipc_threads.proofs.slots.Slots.note_at.Goals as goal

pub invariant_of-self : goal.invariant_of-self
invariant_of-self c =
    let follows = rw (← c.self.view_is) at c.requires.follows in
    rw (c.add.ensures, c.requires.entry) (record { legal = legal_push c.self.inside.past (Given (At c.args.moment)) c.self.invariant.legal follows; stands = noted_at c.self.inside.past c.args.moment c.self.inside.kept c.self.invariant.legal follows c.self.invariant.stands })
