use Rattle.ipc_laws.proofs.EndMoments.{outcome_timed}
use Rattle.ipc_laws.proofs.Lasting.{outcome_kept}
use Rattle.ipc_laws.proofs.laws.outcomes_stay.Goals as goal

pub returns : goal.returns
returns c = record {
  stay = λ P Q h n called over lives. outcome_kept P Q h n called over lives;
  timed = λ H legal n called told is. outcome_timed H legal n called told is;
}
