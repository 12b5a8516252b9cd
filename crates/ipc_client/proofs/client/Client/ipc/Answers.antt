use Rattle.ipc_client.specs.Asking.{answers_call}
use Rattle.ipc_client.proofs.ClientLemmas.{closed_before}
use Rattle.ipc_client.proofs.client.Client.ipc.Goals as goal

pub returns-in-Err-clause-err : goal.returns-in-Err-clause-err
returns-in-Err-clause-err g c = c.in-Err.ensures.err (answers_call c.args.self.now.version)

pub returns-in-Err-clause-closed : goal.returns-in-Err-clause-closed
returns-in-Err-clause-closed g c = closed_before (answers_call c.args.self.now.version) _ _ _ c.in-Err.error (c.in-Err.ensures.err (answers_call c.args.self.now.version))
