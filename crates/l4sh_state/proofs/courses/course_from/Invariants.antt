use Rattle.std.specs.Prelude.{sum_by}
use Rattle.l4sh_state.proofs.Walking.{IsWalking, unseen}
use Rattle.l4sh_state.proofs.courses.course_from.Given as goal

abbrev pub invariant-walk : goal.invariant-walk
invariant-walk l = IsWalking l.waits l.start l.seen l.current l.steps

abbrev pub decreases-walk : goal.decreases-walk
decreases-walk l = sum_by unseen l.seen
