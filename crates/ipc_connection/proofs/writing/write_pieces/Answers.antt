use Rattle.std.proofs.Common.{refl, ◌∙◌}
use Rattle.ipc_connection.proofs.PenLemmas.{grows_none, passes_none, passes_more}
use Rattle.ipc_connection.proofs.writing.write_pieces.Goals as goal

pub pieces-init : goal.pieces-init
pieces-init g c = record { wrote = passes_none _ _ _ (grows_none _); kept = refl }

pub returns-in-Some-clause-wrote : goal.returns-in-Some-clause-wrote
returns-in-Some-clause-wrote g c = passes_more _ _ _ _ _ _ c.pieces.invariant.wrote c.write_piece.ensures.wrote

pub pieces-preserved : goal.pieces-preserved
pieces-preserved g c = record {
  wrote = passes_more _ _ _ _ _ _ c.pieces.invariant.wrote c.write_piece.ensures.wrote;
  kept = c.in_default.ensures.kept (λ e. cc) ∙ c.pieces.invariant.kept;
}
