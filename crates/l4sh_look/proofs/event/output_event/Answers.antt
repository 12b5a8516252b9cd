use Rattle.std.proofs.Common.{refl}
use Rattle.ipc_threads.proofs.OutputCalls.{both_open}
use Rattle.l4sh_look.proofs.event.output_event.Goals as goal

pub returns-in-Ended : goal.returns-in-Ended
returns-in-Ended c follows = rw c.in-Ended.is
    (c.meeting.ensures (both_open c.args.slots.now.past _ (rw c.in-Ended.is at follows) c.in-Ended.sending c.in-Ended.receiving (refl, refl)))

pub returns-in-Overflowed : goal.returns-in-Overflowed
returns-in-Overflowed c follows = rw c.in-Overflowed.is
    (c.meeting-in-Overflowed.ensures (both_open c.args.slots.now.past _ (rw c.in-Overflowed.is at follows) c.in-Overflowed.sending c.in-Overflowed.receiving (refl, refl)))

pub returns-in-Aborted : goal.returns-in-Aborted
returns-in-Aborted c follows = rw c.in-Aborted.is
    (c.meeting-in-Aborted.ensures (both_open c.args.slots.now.past _ (rw c.in-Aborted.is at follows) c.in-Aborted.sending c.in-Aborted.receiving (refl, refl)))

pub returns-in-Failed : goal.returns-in-Failed
returns-in-Failed c follows = rw c.in-Failed.is
    (c.failure.ensures (both_open c.args.slots.now.past _ (rw c.in-Failed.is at follows) c.in-Failed.number c.in-Failed.number (refl, refl)).0)
