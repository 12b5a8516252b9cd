use Rattle.std.proofs.Common.{refl, ◌∙◌}
use Rattle.ipc_session.proofs.WriteLemmas.{tells_none, wrote_none, wrote_then}
use Rattle.ipc_session.proofs.writing.write_loop.Goals as goal

pub turns-init : goal.turns-init
turns-init g c = record { wrote = wrote_none _ _ _ (tells_none _); kept = refl }

pub returns-in-Some-clause-text : goal.returns-in-Some-clause-text
returns-in-Some-clause-text g c = wrote_then _ _ _ _ _ _ _ _ c.turns.invariant.wrote c.in-Some.ensures.text

pub turns-preserved : goal.turns-preserved
turns-preserved g c = record {
  wrote = wrote_then _ _ _ _ _ _ _ _ c.turns.invariant.wrote c.in_default.ensures.text;
  kept = c.in_default.ensures.kept (λ e. cc) ∙ c.turns.invariant.kept;
}
