use Rattle.ipc_server.proofs.ServicesLemmas.{serve_all}
use Rattle.ipc_server.proofs.services.Services.end_work.Goals as goal

pub invariant_of-result : goal.invariant_of-result
invariant_of-result g c = serve_all _ _ _ _ _ c.self.invariant c.end_work.ensures.ends

pub returns-clause-served : goal.returns-clause-served
returns-clause-served g c = serve_all _ _ _ _ _ c.self.invariant c.end_work.ensures.ends
