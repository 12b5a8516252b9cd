use Rattle.std.proofs.Common.{◌∙◌, rules}
use Rattle.ipc_frame.proofs.WriteLemmas.{nothing_left, writes_more, writes_all, writes_part}
use Rattle.ipc_frame.proofs.writing.write_encoder.Goals as goal

pub returns-in_err-write_piece-clause-part : goal.returns-in_err-write_piece-clause-part
returns-in_err-write_piece-clause-part g c =
    let part = writes_part _ _ _ _ _ c.pieces.invariant.wrote c.in_err-write_piece.ensures.part in
    search rules

pub pieces-preserved : goal.pieces-preserved
pieces-preserved g c = record {
  wrote = writes_more _ _ _ _ _ _ c.pieces.invariant.wrote c.in_ok-write_piece.ensures.wrote;
  kept = c.in_ok-write_piece.ensures.kept ∙ c.pieces.invariant.kept;
}

pub returns-clause-whole : goal.returns-clause-whole
returns-clause-whole g c = writes_all _ _ _ _ (writes_more _ _ _ _ _ _ c.pieces.invariant.wrote
    c.in_ok-write_piece.ensures.wrote) (nothing_left _ _ _ _ c.in_ok-write_piece.ensures.wrote
    (c.in_ok-write_piece.ensures.done c.if-branch.false))
