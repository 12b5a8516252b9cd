use Rattle.std.proofs.Common.{length, arith}
use Rattle.std.proofs.lemmas.List.{take_rest}
use Rattle.ipc_frame.proofs.JudgeLemmas.{no_more, short_start, too_long, no_body, right_start}
use Rattle.ipc_frame.proofs.judging.judge.Goals as goal

pub returns-then-held-lt4 : goal.returns-then-held-lt4
returns-then-held-lt4 c =
    short_start c.args.side c.args.held.now c.args.behind c.if-held-lt4.true (no_more c.args.behind 50 (length c.args.held.now) c.requires.head (omega (arith, c.if-held-lt4.true)))

pub returns-then-size-gt-MAX_FRAME_BODY : goal.returns-then-size-gt-MAX_FRAME_BODY
returns-then-size-gt-MAX_FRAME_BODY c =
    too_long c.args.side c.args.held.now c.args.behind c.if-held-lt4.false (omega arith)

pub returns-then-size-eq0 : goal.returns-then-size-eq0
returns-then-size-eq0 c =
    no_body c.args.side c.args.held.now c.args.behind c.if-held-lt4.false (omega arith)

pub returns : goal.returns
returns c =
    right_start c.args.side c.args.held.now c.args.behind c.if-held-lt4.false _ c.judge_body.result (omega arith) (rw (take_rest c.args.held.now 4) at c.judge_body.ensures)
