use Rattle.std.proofs.Common.{sym, ◌∙◌, get_or}
use Rattle.l4sh_look.proofs.RunLemmas.{in_run, none_left, past_run, same_run}
use Rattle.l4sh_look.proofs.times.time_at.Goals as goal

pub returns-then-left-run : goal.returns-then-left-run
returns-then-left-run c =
    let l = c.loop-run in
    let runs = c.args.runs.now in
    let run = get_or runs l.run-index (record { time = 0; count = 0 }) in
    sym (l.invariant ∙ in_run runs l.run-index run l.left c.loop-run-test.true (same_run runs l.run-index (record { time = 0; count = 0 }) c.loop-run-test.true) c.if-left-run.true)

pub loop-run-preserved : goal.loop-run-preserved
loop-run-preserved c =
    let l = c.loop-run in
    let runs = c.args.runs.now in
    let run = get_or runs l.run-index (record { time = 0; count = 0 }) in
    l.invariant ∙ past_run runs l.run-index run l.left c.loop-run-test.true (same_run runs l.run-index (record { time = 0; count = 0 }) c.loop-run-test.true) c.if-left-run.false

pub returns : goal.returns
returns c = sym (c.loop-run.invariant ∙ none_left c.args.runs.now c.loop-run.run-index c.loop-run.left c.loop-run-test.false)
