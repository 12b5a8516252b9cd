use Rattle.ipc_laws.proofs.Settling.{legal_push}
use Rattle.ipc_history.specs.declared.entry.Entry.TheVariants.{Written}
use Rattle.ipc_threads.proofs.OutputCalls.{both_open}
use Rattle.ipc_threads.proofs.OutputSteps.{noted_both}
use Rattle.ipc_threads.proofs.Changed.{holders_apart, named_apart, two_changed}
use Rattle.ipc_threads.proofs.Recents.{looks}
use Rattle.std.proofs.Common.{◌≡◌, true}
use Rattle.ipc_words.specs.ThreadId.{number_of}
use Rattle.ipc_history.specs.Calls.{caller_of}
use Rattle.ipc_threads.specs.Changes.{changes_at}
use Rattle.ipc_threads.proofs.Naming.{first_at, output_named, second_at}
use Rattle.ipc_threads.proofs.slots.Slots.note_two.Goals as goal

pub place_of-first-requires : goal.place_of-first-requires
place_of-first-requires c = (both_open c.args.self.now.past c.args.output.now c.requires.follows c.args.sending c.args.receiving c.requires.named).0

pub place_from-second-requires : goal.place_from-second-requires
place_from-second-requires c = (both_open c.args.self.now.past c.args.output.now c.requires.follows c.args.sending c.args.receiving c.requires.named).1

pub invariant_of-self : goal.invariant_of-self
invariant_of-self c =
    let follows = rw (← c.self.view_is) at c.requires.follows in
    let first = rw (← c.self.view_is) at c.place_of-first.ensures.holds in
    let second = rw (← c.self.view_is) at c.place_from-second.ensures.holds in
    rw (c.add.ensures, c.requires.entry, c.note_two-changes.ensures.kept) (record { legal = legal_push c.self.inside.past (Written c.args.output.now) c.self.invariant.legal follows; stands = looks _ _ c.place_of-first.result (noted_both c.self.inside.past c.args.output.now c.self.inside.kept c.args.sending c.args.receiving c.place_of-first.result c.place_from-second.result c.self.invariant.legal follows c.self.invariant.stands c.requires.named c.place_of-first.ensures.within c.place_from-second.ensures.within first second) })

pub returns-clause-changed : goal.returns-clause-changed
returns-clause-changed c =
    let follows = rw (← c.self.view_is) at c.requires.follows in
    let first = rw (← c.self.view_is) at c.place_of-first.ensures.holds in
    let second = rw (← c.self.view_is) at c.place_from-second.ensures.holds in
    let apart = named_apart c.self.inside.past c.self.invariant.legal c.args.output.now follows c.args.sending c.args.receiving c.requires.named c.requires.two in
    rw (c.note_two-changes.ensures.kept, c.note_two-changes.ensures.changes, ← c.self.view_is) (two_changed c.self.inside.kept.table c.place_of-first.result c.place_from-second.result _ _ c.place_of-first.ensures.within c.place_from-second.ensures.within (holders_apart c.self.inside.kept.table c.args.sending c.args.receiving c.place_of-first.result c.place_from-second.result apart first second))

pub returns-clause-named : goal.returns-clause-named
returns-clause-named c =
    let first : changes_at c.note_two-changes.result (number_of (caller_of c.args.self.now.past c.args.sending)) ≡ true = rw c.note_two-changes.ensures.changes (first_at c.self.inside.kept.table c.place_of-first.result c.place_from-second.result _ c.place_of-first.ensures.place) in
    let second : changes_at c.note_two-changes.result (number_of (caller_of c.args.self.now.past c.args.receiving)) ≡ true = rw c.note_two-changes.ensures.changes (second_at c.self.inside.kept.table c.place_of-first.result c.place_from-second.result _ c.place_from-second.ensures.place) in
    rw c.requires.entry (output_named c.args.self.now.past c.args.output.now c.args.sending c.args.receiving _ c.requires.follows c.requires.named first second)
