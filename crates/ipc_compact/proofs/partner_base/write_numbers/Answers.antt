use Rattle.ipc_compact.specs.Bases.{written_to}
use Rattle.ipc_compact.proofs.BaseLemmas.{live_some, written_few, written_more}
use Rattle.ipc_compact.proofs.partner_base.write_numbers.Goals as goal

pub loop-place-init : goal.loop-place-init
unfolding written_to
loop-place-init c = c.requires.room

pub dropped_by-dropped-requires-clause-live : goal.dropped_by-dropped-requires-clause-live
dropped_by-dropped-requires-clause-live c = live_some c.args.desks.now.past c.loop-place.place c.thread_at-thread.result (rw c.requires.slots at c.thread_at-thread.ensures)

pub add_number-requires-clause-versions : goal.add_number-requires-clause-versions
add_number-requires-clause-versions c = (written_few c.args.desks.now.past c.args.kept.now c.loop-place.place c.loop-place.room c.loop-place.invariant c.loop-place-test.true).0

pub add_number-requires-clause-dropped : goal.add_number-requires-clause-dropped
add_number-requires-clause-dropped c = (written_few c.args.desks.now.past c.args.kept.now c.loop-place.place c.loop-place.room c.loop-place.invariant c.loop-place-test.true).1

pub loop-place-preserved : goal.loop-place-preserved
loop-place-preserved c =
    let thread = rw c.requires.slots at c.thread_at-thread.ensures in
    written_more c.args.desks.now.past c.args.kept.now c.loop-place.place c.loop-place.room c.loop-place.invariant c.kept.ensures.legal c.add_number.new.self
    c.next_version_of-next.result c.dropped_by-dropped.result (rw c.requires.slots at c.next_version_of-next.ensures) (rw thread at c.dropped_by-dropped.ensures)
    c.add_number.ensures.versions c.add_number.ensures.dropped c.add_number.ensures.over
