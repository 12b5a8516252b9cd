use Rattle.std.proofs.Common.{refl}
use Rattle.ipc_waits.specs.Next.{slots_at}
use Rattle.ipc_waits.proofs.MeetingLemmas.{least_meeting_none, meeting_more}
use Rattle.ipc_waits.proofs.next.ReadWaiting.best_meeting.Goals as goal

pub loop-place-init : goal.loop-place-init
loop-place-init c = least_meeting_none c.args.self.now.slots.past (slots_at c.args.self.now.slots.kept.table c.args.places.now)

pub loop-place-preserved : goal.loop-place-preserved
loop-place-preserved c = rw c.better_meeting-best.ensures (meeting_more c.args.self.now.slots.past c.args.self.now.slots.kept.table c.args.places.now c.loop-place.place-index _ _ c.loop-place.best c.loop-place-test.true refl c.loop-place.invariant)
