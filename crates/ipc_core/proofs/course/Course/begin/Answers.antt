use Rattle.std.proofs.Common.{arith}
use Rattle.ipc_core.proofs.CourseLemmas.{course_begins}
use Rattle.ipc_core.proofs.course.Course.begin.Goals as goal

pub invariant_of-self : goal.invariant_of-self
invariant_of-self c =
    let was = c.self.invariant in
    record {
      course = course_begins _ _ _ _ _ _ _ _ _ was.course c.len-self-inside.ensures c.clear.ensures.items (let same = c.clear.ensures.capacity in omega (arith, same));
      front = (let front = was.front in let begun = was.course.begun in omega (arith, front, begun, c.len-self-inside.ensures));
      partners_of = was.partners_of;
      counted = was.counted;
      kept = was.kept;
    }
