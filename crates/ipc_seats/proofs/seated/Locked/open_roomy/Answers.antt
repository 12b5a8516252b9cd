use Rattle.ipc_seats.proofs.Again.{opened_roomy, refused_roomy}
use Rattle.ipc_seats.proofs.seated.Locked.open_roomy.Goals as goal

pub returns-clause-opens : goal.returns-clause-opens
returns-clause-opens g c = opened_roomy c.open_seated.result (λ opened. opened.0) _ _ _ _ _ c.compact_marked.ensures c.open_seated.ensures.opens

pub returns-clause-refuses : goal.returns-clause-refuses
returns-clause-refuses g c = refused_roomy _ _ _ _ _ _ c.compact_marked.ensures c.open_seated.ensures.refuses
