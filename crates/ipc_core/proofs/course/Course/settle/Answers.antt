use Rattle.std.proofs.Common.{sym, ◌∙◌}
use Rattle.ipc_core.proofs.CourseLemmas.{goes_none}
use Rattle.ipc_core.proofs.PassedCourse.{goes_written, written_falls}
use Rattle.ipc_core.proofs.course.Course.settle.Goals as goal

pub write-requires-clause-legal : goal.write-requires-clause-legal
write-requires-clause-legal c = c.loop-output.invariant.legal

pub write-requires-clause-next : goal.write-requires-clause-next
write-requires-clause-next c = sym c.next_output.ensures ∙ c.in-Some.is

pub write-requires-clause-room : goal.write-requires-clause-room
write-requires-clause-room c = c.loop-output.invariant.fits

pub loop-output-init : goal.loop-output-init
loop-output-init c = goes_none _ c.requires.legal c.requires.room

pub loop-output-smaller : goal.loop-output-smaller
loop-output-smaller c = written_falls c.loop-output.self c.write.new.self c.in-Some.output c.loop-output.invariant.legal (sym c.next_output.ensures ∙ c.in-Some.is) c.write.ensures.entries

pub loop-output-preserved : goal.loop-output-preserved
loop-output-preserved c = goes_written _ _ _ c.in-Some.output c.loop-output.invariant (sym c.next_output.ensures ∙ c.in-Some.is) c.write.ensures.entries c.write.ensures.room c.write.ensures.books
