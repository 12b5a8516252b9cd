use Rattle.ipc_laws.proofs.Settling.{legal_push}
use Rattle.ipc_history.specs.declared.entry.Entry.TheVariants.{Given}
use Rattle.ipc_history.specs.declared.entry.Input.TheVariants.{Moved}
use Rattle.ipc_threads.proofs.MovedSteps.{noted_moved, receiver_opened, sends, slot_room}
use Rattle.ipc_threads.proofs.Changed.{holders_apart, moved_apart, two_changed}
use Rattle.ipc_threads.proofs.Recents.{looks}
use Rattle.std.proofs.Common.{◌≡◌, true}
use Rattle.ipc_words.specs.ThreadId.{number_of}
use Rattle.ipc_history.specs.Calls.{caller_of}
use Rattle.ipc_threads.specs.Changes.{changes_at}
use Rattle.ipc_threads.proofs.Naming.{first_at, moved_named}
use Rattle.ipc_threads.proofs.slots.Slots.note_moved.Goals as goal

pub place_of-sending-requires : goal.place_of-sending-requires
place_of-sending-requires c = sends c.args.self.now.past c.args.number c.args.count c.kept.ensures.legal c.requires.follows

pub place_from-receiving-requires : goal.place_from-receiving-requires
place_from-receiving-requires c = receiver_opened c.args.self.now.past c.args.number c.args.count c.kept.ensures.legal c.requires.follows c.receiver_of-receiver.result c.receiver_of-receiver.ensures

pub note_moved-changes-requires-clause-room : goal.note_moved-changes-requires-clause-room
note_moved-changes-requires-clause-room c =
    let follows = rw (← c.self.view_is) at c.requires.follows in
    λ k s is. slot_room c.self.inside.past c.args.number c.args.count c.self.inside.kept c.self.invariant.legal follows c.self.invariant.stands k s is

pub invariant_of-self : goal.invariant_of-self
invariant_of-self c =
    let follows = rw (← c.self.view_is) at c.requires.follows in
    let receiver = rw (← c.self.view_is) at c.receiver_of-receiver.ensures in
    let sending = rw (← c.self.view_is) at c.place_of-sending.ensures.holds in
    let receiving = rw (← c.self.view_is) at c.place_from-receiving.ensures.holds in
    rw (c.add.ensures, c.requires.entry, c.note_moved-changes.ensures.kept) (record { legal = legal_push c.self.inside.past (Given (Moved c.args.number c.args.count)) c.self.invariant.legal follows; stands = looks _ _ c.place_of-sending.result (noted_moved c.self.inside.past c.args.number c.args.count c.self.invariant.legal follows c.self.inside.kept c.self.invariant.stands c.receiver_of-receiver.result c.place_of-sending.result c.place_from-receiving.result receiver c.place_of-sending.ensures.within c.place_from-receiving.ensures.within sending receiving) })

pub returns-clause-changed : goal.returns-clause-changed
returns-clause-changed c =
    let follows = rw (← c.self.view_is) at c.requires.follows in
    let receiver = rw (← c.self.view_is) at c.receiver_of-receiver.ensures in
    let sending = rw (← c.self.view_is) at c.place_of-sending.ensures.holds in
    let receiving = rw (← c.self.view_is) at c.place_from-receiving.ensures.holds in
    let apart = moved_apart c.self.inside.past c.self.invariant.legal c.args.number c.args.count follows c.receiver_of-receiver.result receiver in
    rw (c.note_moved-changes.ensures.kept, c.note_moved-changes.ensures.changes, ← c.self.view_is) (two_changed c.self.inside.kept.table c.place_of-sending.result c.place_from-receiving.result _ _ c.place_of-sending.ensures.within c.place_from-receiving.ensures.within (holders_apart c.self.inside.kept.table c.args.number c.receiver_of-receiver.result c.place_of-sending.result c.place_from-receiving.result apart sending receiving))

pub returns-clause-named : goal.returns-clause-named
returns-clause-named c =
    let at : changes_at c.note_moved-changes.result (number_of (caller_of c.args.self.now.past c.args.number)) ≡ true = rw c.note_moved-changes.ensures.changes (first_at c.self.inside.kept.table c.place_of-sending.result c.place_from-receiving.result _ c.place_of-sending.ensures.place) in
    rw c.requires.entry (moved_named c.args.self.now.past c.args.number c.args.count _ (sends c.args.self.now.past c.args.number c.args.count c.kept.ensures.legal c.requires.follows) at)
