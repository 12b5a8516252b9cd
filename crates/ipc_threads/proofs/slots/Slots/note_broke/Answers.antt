use Rattle.ipc_laws.proofs.Settling.{legal_push}
use Rattle.std.proofs.Common.{◌∙◌}
use Rattle.ipc_history.specs.declared.entry.Entry.TheVariants.{Given}
use Rattle.ipc_history.specs.declared.entry.Input.TheVariants.{Broke}
use Rattle.ipc_threads.proofs.ThreadSteps.{noted_broke, broke_live, broke_within}
use Rattle.ipc_threads.proofs.Lookups.{is_some_live}
use Rattle.ipc_threads.proofs.slots.Slots.note_broke.Goals as goal

pub place_of_thread-place-requires : goal.place_of_thread-place-requires
place_of_thread-place-requires c = broke_live c.args.self.now.past c.args.thread c.requires.follows

pub note_broke-changes-requires-clause-live : goal.note_broke-changes-requires-clause-live
note_broke-changes-requires-clause-live c =
    let follows = rw (← c.self.view_is) at c.requires.follows in
    is_some_live c.self.inside.past c.self.inside.kept c.self.invariant.legal c.self.invariant.stands c.args.thread ∙ broke_live c.self.inside.past c.args.thread follows

pub invariant_of-self : goal.invariant_of-self
invariant_of-self c =
    let follows = rw (← c.self.view_is) at c.requires.follows in
    rw (c.add.ensures, c.requires.entry, c.note_broke-changes.ensures.kept, c.place_of_thread-place.ensures.place) (record { legal = legal_push c.self.inside.past (Given (Broke c.args.thread)) c.self.invariant.legal follows; stands = noted_broke c.self.inside.past c.args.thread c.self.invariant.legal follows c.self.inside.kept c.self.invariant.stands (broke_within c.self.inside.past c.self.inside.kept c.self.invariant.legal c.self.invariant.stands c.args.thread follows) })
