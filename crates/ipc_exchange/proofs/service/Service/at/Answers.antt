use Rattle.ipc_core.proofs.AgainLaws.{clock_lacks_none}
use Rattle.ipc_exchange.proofs.TellingLemmas.{does_alone}
use Rattle.ipc_exchange.proofs.service.Service.at.Goals as goal

pub returns-clause-done : goal.returns-clause-done
returns-clause-done c = does_alone c.args.self.now c.read_clock.new.self c.deliver.new.self _ _ (clock_lacks_none _ _) c.read_clock.ensures.kernel c.read_clock.ensures.connections c.deliver.ensures.told
