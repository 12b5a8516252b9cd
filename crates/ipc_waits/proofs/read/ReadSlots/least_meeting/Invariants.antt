use Rattle.ipc_history.specs.NextOutput.{meeting_of}
use Rattle.ipc_waits.specs.Least.{IsLeast}
use Rattle.ipc_waits.proofs.read.ReadSlots.least_meeting.Given as goal

abbrev pub invariant-loop-place : goal.invariant-loop-place
invariant-loop-place l = IsLeast (meeting_of l.self.past) l.self.kept.table l.place l.best
