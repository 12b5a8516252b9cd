use Rattle.ipc_laws.proofs.Settling.{legal_push}
use Rattle.ipc_history.specs.declared.entry.Entry.TheVariants.{Written}
use Rattle.ipc_threads.proofs.OutputCalls.{both_open}
use Rattle.ipc_threads.proofs.OutputSteps.{noted_one}
use Rattle.ipc_threads.proofs.Recents.{looks}
use Rattle.std.proofs.Common.{◌≡◌, true}
use Rattle.ipc_words.specs.ThreadId.{number_of}
use Rattle.ipc_history.specs.Calls.{caller_of}
use Rattle.ipc_threads.specs.Changes.{changes_at}
use Rattle.ipc_threads.proofs.Naming.{only_at, output_named}
use Rattle.ipc_threads.proofs.slots.Slots.note_one.Goals as goal

pub place_of-place-requires : goal.place_of-place-requires
place_of-place-requires c = (both_open c.args.self.now.past c.args.output.now c.requires.follows c.args.number c.args.number c.requires.named).0

pub invariant_of-self : goal.invariant_of-self
invariant_of-self c =
    let follows = rw (← c.self.view_is) at c.requires.follows in
    let holds = rw (← c.self.view_is) at c.place_of-place.ensures.holds in
    rw (c.add.ensures, c.requires.entry, c.note_one-changes.ensures.kept) (record { legal = legal_push c.self.inside.past (Written c.args.output.now) c.self.invariant.legal follows; stands = looks _ _ c.place_of-place.result (noted_one c.self.inside.past c.args.output.now c.self.inside.kept c.args.number c.place_of-place.result c.self.invariant.legal follows c.self.invariant.stands c.requires.named c.requires.alone c.place_of-place.ensures.within holds) })

pub returns-clause-named : goal.returns-clause-named
returns-clause-named c =
    let at : changes_at c.note_one-changes.result (number_of (caller_of c.args.self.now.past c.args.number)) ≡ true = rw c.note_one-changes.ensures.changes (only_at c.self.inside.kept.table c.place_of-place.result _ c.place_of-place.ensures.place) in
    rw c.requires.entry (output_named c.args.self.now.past c.args.output.now c.args.number c.args.number _ c.requires.follows c.requires.named at at)
