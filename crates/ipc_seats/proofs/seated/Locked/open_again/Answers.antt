use Rattle.std.proofs.Common.{refl, sym, ◌∙◌}
use Rattle.ipc_core.proofs.AgainLaws.{obeyed_first}
use Rattle.ipc_seats.proofs.Again.{opened_again, refused_again}
use Rattle.ipc_seats.proofs.seated.Locked.open_again.Goals as goal

pub returns-in-Ok-clause-opens : goal.returns-in-Ok-clause-opens
returns-in-Ok-clause-opens g c = obeyed_first _ _ _ _ _ c.in-Ok.ensures.opens refl

pub returns-then-not-is_history_full-clause-refuses : goal.returns-then-not-is_history_full-clause-refuses
returns-then-not-is_history_full-clause-refuses g c =
    obeyed_first _ _ _ _ _ c.in-Err.ensures.refuses (sym c.is_history_full.ensures ∙ c.if-not-is_history_full.true)

pub returns-else-not-is_history_full-clause-opens : goal.returns-else-not-is_history_full-clause-opens
returns-else-not-is_history_full-clause-opens g c =
    opened_again c.open_roomy.result (λ opened. opened.0) _ _ _ _ _ c.in-Err.ensures.err c.in-Err.ensures.refuses
    (sym c.is_history_full.ensures ∙ c.if-not-is_history_full.false) c.open_roomy.ensures.opens

pub returns-else-not-is_history_full-clause-refuses : goal.returns-else-not-is_history_full-clause-refuses
returns-else-not-is_history_full-clause-refuses g c =
    refused_again _ _ _ _ _ _ c.in-Err.ensures.err c.in-Err.ensures.refuses
    (sym c.is_history_full.ensures ∙ c.if-not-is_history_full.false) c.open_roomy.ensures.refuses
