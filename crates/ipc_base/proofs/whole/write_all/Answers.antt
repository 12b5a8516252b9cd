use Rattle.std.proofs.Common.{◌∙◌}
use Rattle.ipc_base.proofs.Pieces.{appends_next, piece_within}
use Rattle.ipc_base.proofs.whole.write_all.Goals as goal

pub pieces-preserved : goal.pieces-preserved
pieces-preserved g c = record {
  within = piece_within c.pieces.at c.in_ok-at.field-0 c.args.bytes.now c.pieces.invariant.within c.in_ok-at.ensures.bound;
  written = appends_next _ _ _ c.pieces.at c.in_ok-at.field-0 c.args.bytes.now c.pieces.invariant.written c.in_ok-at.ensures.bytes;
  kept = c.in_ok-at.ensures.kept ∙ c.pieces.invariant.kept;
}
