use Rattle.ipc_server.proofs.ServicesLemmas.{none_served}
use Rattle.ipc_server.proofs.services.Services.new.Goals as goal

pub invariant_of-result : goal.invariant_of-result
invariant_of-result g c = none_served _ _ _ _ c.requires c.new.ensures
