use Rattle.std.proofs.Common.{ap, ◌∙◌, get_or}
use Rattle.l4sh_look.specs.Runs.{times_of}
use Rattle.l4sh_look.proofs.RunLemmas.{joined_next, joined_same, same_run, times_push, times_whole}
use Rattle.l4sh_look.specs.declared.times.Run.{Run}
use Rattle.l4sh_look.proofs.times.joined.Goals as goal
use Rattle.l4sh_look.proofs.times.joined.Goals.{in-Some, in_default+in_ok-push-in_default}

pub loop-run-preserved : goal.loop-run-preserved
loop-run-preserved c =
    let l = c.loop-run in
    let runs = c.args.runs.now in
    let first : Run = record { time = 0; count = 0 } in
    let run = get_or runs l.run-index first in
    let at = same_run runs l.run-index first c.loop-run-test.true in
    elim c.match-checked_add.branch [
      | in-Some w ↦ rw (w.joined-is, w.last-is)
          (joined_same runs l.run-index run l.joined.items l.last c.loop-run-test.true at l.invariant w.in-Some.count w.if-last-run.true w.in-Some.ensures.1)
      | in_default+in_ok-push-in_default w ↦ rw (w.joined-is, w.last-is, w.in_ok-push-in_default.ensures.items)
          (joined_next runs l.run-index run l.joined.items l.last c.loop-run-test.true at l.invariant)
    ]

pub returns : goal.returns
returns c =
    ap times_of c.in_ok-push.ensures.items ∙ times_push c.loop-run.joined.items c.loop-run.last
    ∙ c.loop-run.invariant ∙ times_whole c.args.runs.now c.loop-run.run-index c.loop-run-test.false
