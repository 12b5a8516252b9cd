use Rattle.std.proofs.Common.{◌∙◌, sym}
use Rattle.ipc_lock.proofs.Carrying.{all_carried, no_rounds, round_more}
use Rattle.ipc_lock.proofs.shared_kernel.SharedKernel.carry.Goals as goal

pub rounds-init : goal.rounds-init
rounds-init g c = no_rounds _

pub returns-then-is_empty : goal.returns-then-is_empty
returns-then-is_empty g c = record { carries = all_carried _ _ c.rounds.invariant (sym c.is_empty.ensures ∙ c.if-is_empty.true) }

pub rounds-preserved : goal.rounds-preserved
rounds-preserved g c =
    round_more _ _ _ _ _ _ _ _ c.rounds.invariant c.write.ensures.first c.write.ensures.second c.write.ensures.third c.take_back.ensures.takes
