use Rattle.ipc_history.specs.NextOutput.{meeting_of}
use Rattle.ipc_waits.proofs.Betters.{least_better}
use Rattle.ipc_waits.proofs.LeastLemmas.{least_start, least_meets}
use Rattle.ipc_waits.proofs.read.ReadSlots.least_meeting.Goals as goal

pub loop-place-init : goal.loop-place-init
loop-place-init c = least_start (meeting_of c.args.self.now.past) c.args.self.now.kept.table

pub loop-place-preserved : goal.loop-place-preserved
loop-place-preserved c =
    let loop = c.loop-place in
    let slots = c.args.self.now in
    rw c.better_meeting-best.ensures (least_better (meeting_of slots.past) slots.kept.table loop.place loop.best loop.invariant)

pub returns-in-None : goal.returns-in-None
returns-in-None c =
    let loop = c.loop-place in
    let slots = c.args.self.now in
    let legal = rw c.slots.ensures at c.kept.ensures.legal in
    let stands = rw (c.kept.ensures.kept, c.slots.ensures) at c.kept.ensures.stands in
    let all = rw (c.top-place-end.ensures, c.kept.ensures.kept, c.slots.ensures) at c.loop-place-test.false in
    least_meets slots.past slots.kept loop.place loop.best _ legal stands all loop.invariant c.in-None.is

pub returns-in-Some : goal.returns-in-Some
returns-in-Some c =
    let loop = c.loop-place in
    let slots = c.args.self.now in
    let legal = rw c.slots.ensures at c.kept.ensures.legal in
    let stands = rw (c.kept.ensures.kept, c.slots.ensures) at c.kept.ensures.stands in
    let all = rw (c.top-place-end.ensures, c.kept.ensures.kept, c.slots.ensures) at c.loop-place-test.false in
    least_meets slots.past slots.kept loop.place loop.best _ legal stands all loop.invariant c.in-Some.is
