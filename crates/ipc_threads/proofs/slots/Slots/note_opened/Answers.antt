use Rattle.ipc_laws.proofs.Settling.{legal_push}
use Rattle.ipc_history.specs.declared.entry.Entry.TheVariants.{Given}
use Rattle.ipc_history.specs.declared.entry.Input.TheVariants.{Opened}
use Rattle.ipc_threads.proofs.ThreadSteps.{noted_opened, opened_within, opens_in}
use Rattle.ipc_threads.proofs.slots.Slots.note_opened.Goals as goal

pub note_opened-changes-requires-clause-opens : goal.note_opened-changes-requires-clause-opens
note_opened-changes-requires-clause-opens c =
    let follows = rw (← c.self.view_is) at c.requires.follows in
    opens_in c.self.inside.past c.args.thread c.args.space c.self.inside.kept c.self.invariant.legal follows c.self.invariant.stands

pub invariant_of-self : goal.invariant_of-self
invariant_of-self c =
    let follows = rw (← c.self.view_is) at c.requires.follows in
    rw (c.add.ensures, c.requires.entry, c.note_opened-changes.ensures.kept, c.place_opened-place.ensures.place) (record { legal = legal_push c.self.inside.past (Given (Opened c.args.thread c.args.space)) c.self.invariant.legal follows; stands = noted_opened c.self.inside.past c.args.thread c.args.space c.self.invariant.legal follows c.self.inside.kept c.self.invariant.stands (opened_within c.self.inside.past c.args.thread c.args.space follows) })
