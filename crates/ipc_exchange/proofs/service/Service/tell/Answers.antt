use Rattle.std.proofs.Common.{◌∙◌, ap, length}
use Rattle.ipc_exchange.proofs.TellingLemmas.{tells_by}
use Rattle.ipc_exchange.proofs.service.Service.tell.Goals as goal

pub returns-clause-told : goal.returns-clause-told
returns-clause-told c = tells_by c.args.self.now c.tell_connection-left.new.self c.leave.new.self c.deliver.new.self _ _ c.tell_connection-left.ensures.kernel c.tell_connection-left.ensures.connections (rw c.tell_connection-left.ensures.left at c.leave.ensures.kernel) c.leave.ensures.connections c.deliver.ensures.told

pub returns-clause-ready : goal.returns-clause-ready
returns-clause-ready c = record { ready = c.deliver.ensures.ready.ready; same = c.deliver.ensures.ready.same ∙ (ap length c.leave.ensures.connections ∙ c.tell_connection-left.ensures.ready.same) }
