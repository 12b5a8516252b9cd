use Rattle.ipc_waits.proofs.MeetingLemmas.{MeetsFrom}
use Rattle.ipc_waits.proofs.next.first_meeting.Given as goal

abbrev pub invariant-loop-sender : goal.invariant-loop-sender
invariant-loop-sender l = MeetsFrom l.read.past l.senders l.sender-index
