use Rattle.ipc_session.proofs.ReadLemmas.{breaks}
use Rattle.ipc_session.proofs.reading.read_loop.Goals as goal

pub returns-clause-calls : goal.returns-clause-calls
returns-clause-calls g c =
    let ended = c.read_all-ending.ensures.calls in
    (ended.0, ended.1, breaks c.read_all-ending.result _ _ _ _ _ ended.2 c.broke.ensures.told)
