use Rattle.ipc_client.specs.Asking.{greets}
use Rattle.ipc_client.proofs.ClientLemmas.{closed_before}
use Rattle.ipc_client.proofs.client.Client.hello_version.Goals as goal

pub returns-in-Err-clause-err : goal.returns-in-Err-clause-err
returns-in-Err-clause-err g c = c.in-Err.ensures.err greets

pub returns-in-Err-clause-closed : goal.returns-in-Err-clause-closed
returns-in-Err-clause-closed g c = closed_before greets _ _ _ c.in-Err.error (c.in-Err.ensures.err greets)
