use Rattle.std.proofs.Common.{refl, sym, ◌∙◌}
use Rattle.ipc_frame.proofs.JudgeLemmas.{pieces_end, pieces_past}
use Rattle.ipc_frame.proofs.judging.judge_pieces.Goals as goal

pub returns-then-ends_with_pieces : goal.returns-then-ends_with_pieces
returns-then-ends_with_pieces c =
    pieces_end c.args.kind c.args.size 0 c.args.rest.now c.requires.least c.requires.head c.requires.right c.requires.whole refl (sym c.ends_with_pieces.ensures ∙ c.if-ends_with_pieces.true)

pub returns-else-ends_with_pieces : goal.returns-else-ends_with_pieces
returns-else-ends_with_pieces c =
    pieces_past c.args.kind c.args.size 0 c.args.rest.now c.requires.least c.requires.head c.requires.right c.requires.whole refl c.requires.pieced (sym c.ends_with_pieces.ensures ∙ c.if-ends_with_pieces.false)
