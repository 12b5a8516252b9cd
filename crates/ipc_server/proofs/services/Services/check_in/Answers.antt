use Rattle.ipc_server.proofs.DoingLemmas.{serves_one}
use Rattle.ipc_server.proofs.ServicesLemmas.{checks_in}
use Rattle.ipc_server.proofs.services.Services.check_in.Goals as goal

pub invariant_of-self : goal.invariant_of-self
invariant_of-self g c =
    checks_in _ _ _ _ _ _ _ c.args.end _ _ _ c.release-port.result (λ port. g.P.PenPort.written port) c.self.invariant c.requires.asks c.requires.did
    c.release-port.ensures.hands c.release-port.ensures.none c.told_of-read.ensures c.told_behind-self-inside.ensures

pub returns : goal.returns
returns g c =
    serves_one _ _ _ c.args.end _ c.release-port.result (λ port. g.P.PenPort.written port) _ _ c.requires.asks c.requires.did
    c.release-port.ensures.hands c.release-port.ensures.none
