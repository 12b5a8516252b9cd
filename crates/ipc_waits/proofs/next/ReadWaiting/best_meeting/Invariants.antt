use Rattle.ipc_waits.specs.Next.{IsLeastMeeting, slots_at}
use Rattle.ipc_waits.proofs.next.ReadWaiting.best_meeting.Given as goal

abbrev pub invariant-loop-place : goal.invariant-loop-place
invariant-loop-place l = IsLeastMeeting l.self.slots.past (slots_at l.self.slots.kept.table l.places) l.place-index l.best
