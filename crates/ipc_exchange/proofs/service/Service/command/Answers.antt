use Rattle.std.proofs.Common.{◌∙◌, ap, length}
use Rattle.ipc_exchange.proofs.TellingLemmas.{can_tell, does_by}
use Rattle.ipc_exchange.proofs.service.Service.command.Goals as goal

pub tell-requires : goal.tell-requires
tell-requires c = can_tell c.args.version c.args.self.now c.obey-told.new.self _ _ _ c.requires c.obey-told.ensures.sound c.obey-told.ensures.kernel c.obey-told.ensures.connections c.obey-told.ensures.table

pub returns-clause-done : goal.returns-clause-done
returns-clause-done c = does_by c.args.version c.args.self.now c.obey-told.new.self c.tell.new.self _ _ _ c.obey-told.ensures.kernel c.obey-told.ensures.connections c.tell.ensures.told

pub returns-clause-ready : goal.returns-clause-ready
returns-clause-ready c = record { ready = c.tell.ensures.ready.ready; same = c.tell.ensures.ready.same ∙ ap length c.obey-told.ensures.connections }
