use Rattle.std.proofs.Common.{◌∙◌, arith, ◌<◌, length}
use Rattle.std.proofs.Math.ListN.{length-set}
use Rattle.l4sh_state.specs.declared.courses.Course.TheVariants.{Ends}
use Rattle.l4sh_state.specs.Waits.{IsCourse}
use Rattle.l4sh_state.proofs.Deadlocks.{set_holds}
use Rattle.l4sh_state.proofs.telling.courses_of.Goals as goal

pub loop-place-preserved : goal.loop-place-preserved
loop-place-preserved c =
    let size = c.loop-place.invariant.0 in
    let within : c.loop-place.place < length c.loop-place.courses = omega (arith, size) in (
      length-set c.loop-place.courses c.loop-place.place c.course_of.result ∙ size,
      set_holds (IsCourse c.args.waits.now) c.loop-place.courses c.loop-place.place c.course_of.result Ends within c.loop-place.invariant.1 c.course_of.ensures,
    )
