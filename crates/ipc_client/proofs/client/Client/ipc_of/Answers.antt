use Rattle.ipc_client.specs.Messages.{ipc_of}
use Rattle.ipc_client.proofs.ClientLemmas.{any_fails_call, not_withheld}
use Rattle.ipc_client.proofs.client.Client.ipc_of.Goals as goal

pub returns-in-Ok-clause-err : goal.returns-in-Ok-clause-err
returns-in-Ok-clause-err g c = any_fails_call _ _ _ _ (rw c.in-Ok.ensures.frame at c.ipc.ensures.err)

pub returns-in-Ok-clause-limits : goal.returns-in-Ok-clause-limits
returns-in-Ok-clause-limits g c = not_withheld c.args.self.now c.ipc.new.self (ipc_of c.args.to c.args.from c.args.timeouts c.args.message c.args.buffers) c.ipc.result c.in-Ok.ensures.fits
