use Rattle.l4sh_state.proofs.Deadlocks.{circle_of, deadlock_stands}
use Rattle.l4sh_state.proofs.telling.tell_state.Goals as goal

pub returns-clause-deadlock : goal.returns-clause-deadlock
returns-clause-deadlock c stands =
    let circle = circle_of c.args.state.now.threads c.waits_of-waits.result c.courses_of-courses.result c.waits_of-waits.ensures.size c.waits_of-waits.ensures.waits c.courses_of-courses.ensures stands in
    let told = c.in_ok-circles.ensures circle in
    deadlock_stands _ _ _ _ told.0 _ _ c.in_ok-push_str-3.ensures.bytes c.as_str-2.ensures.value told.1 c.in_ok-push_str-4.ensures.bytes
