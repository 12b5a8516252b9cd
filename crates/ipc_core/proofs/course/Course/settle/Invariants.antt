use Rattle.ipc_laws.specs.Counting.{all_steps_left}
use Rattle.ipc_core.proofs.CourseLemmas.{Goes}
use Rattle.ipc_core.proofs.course.Course.settle.Given as goal

abbrev pub invariant-loop-output : goal.invariant-loop-output
invariant-loop-output l = Goes l.initial.self l.self

abbrev pub decreases-loop-output : goal.decreases-loop-output
decreases-loop-output l = all_steps_left l.self.entries
