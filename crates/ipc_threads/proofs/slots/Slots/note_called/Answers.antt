use Rattle.ipc_laws.proofs.Settling.{legal_push}
use Rattle.ipc_history.specs.declared.entry.Entry.TheVariants.{Given}
use Rattle.ipc_history.specs.declared.entry.Input.TheVariants.{Called}
use Rattle.ipc_threads.proofs.CallSteps.{alive, noted_called}
use Rattle.ipc_threads.proofs.ThreadSteps.{live_within}
use Rattle.ipc_threads.proofs.Recents.{looks}
use Rattle.std.proofs.Common.{◌≡◌, true}
use Rattle.ipc_words.specs.ThreadId.{number_of}
use Rattle.ipc_threads.specs.Changes.{changes_at}
use Rattle.ipc_threads.proofs.Naming.{called_named, only_at}
use Rattle.ipc_threads.proofs.slots.Slots.note_called.Goals as goal

pub place_of_thread-place-requires : goal.place_of_thread-place-requires
place_of_thread-place-requires c = alive c.args.self.now.past c.args.number c.args.caller c.args.call.now c.kept.ensures.legal c.requires.follows

pub entered-entered-requires : goal.entered-entered-requires
entered-entered-requires c = alive c.args.self.now.past c.args.number c.args.caller c.args.call.now c.kept.ensures.legal c.requires.follows

pub invariant_of-self : goal.invariant_of-self
invariant_of-self c =
    let follows = rw (← c.self.view_is) at c.requires.follows in
    let within = live_within c.self.inside.past c.self.inside.kept c.self.invariant.legal c.self.invariant.stands c.args.caller (alive c.self.inside.past c.args.number c.args.caller c.args.call.now c.self.invariant.legal follows) in
    let entered = rw (← c.self.view_is) at c.entered-entered.ensures in
    rw (c.add.ensures, c.requires.entry, c.note_called-changes.ensures.kept, entered, c.place_of_thread-place.ensures.place) (record { legal = legal_push c.self.inside.past (Given (Called c.args.number c.args.caller c.args.call.now)) c.self.invariant.legal follows; stands = looks _ _ _ (noted_called c.self.inside.past c.args.number c.args.caller c.args.call.now c.self.invariant.legal follows c.self.inside.kept c.self.invariant.stands within) })

pub returns-clause-named : goal.returns-clause-named
returns-clause-named c =
    let at : changes_at c.note_called-changes.result (number_of c.args.caller) ≡ true = rw c.note_called-changes.ensures.changes (only_at c.self.inside.kept.table c.place_of_thread-place.result _ c.place_of_thread-place.ensures.place) in
    rw c.requires.entry (called_named c.args.self.now.past c.args.number c.args.caller c.args.call.now _ c.kept.ensures.legal c.requires.follows at)
