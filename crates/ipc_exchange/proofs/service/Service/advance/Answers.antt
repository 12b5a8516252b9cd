use Rattle.ipc_core.proofs.AgainLaws.{copy_lacks_none}
use Rattle.ipc_exchange.proofs.TellingLemmas.{does_alone}
use Rattle.ipc_exchange.proofs.service.Service.advance.Goals as goal

pub returns-clause-done : goal.returns-clause-done
returns-clause-done c = does_alone c.args.self.now c.copy_block.new.self c.deliver.new.self _ _ (copy_lacks_none _) c.copy_block.ensures.kernel c.copy_block.ensures.connections c.deliver.ensures.told
