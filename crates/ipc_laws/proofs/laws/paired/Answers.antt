use Rattle.ipc_laws.proofs.Promise.{paired}
use Rattle.ipc_laws.proofs.Senders.{sender_sees}
use Rattle.ipc_laws.proofs.laws.paired.Goals as goal

pub returns-clause-paired : goal.returns-clause-paired
returns-clause-paired c = paired

pub returns-clause-sees : goal.returns-clause-sees
returns-clause-sees c = sender_sees
