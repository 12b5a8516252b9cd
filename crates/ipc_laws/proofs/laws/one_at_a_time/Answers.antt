use Rattle.ipc_laws.proofs.CallOrder.{entries_in_order, is_open_call}
use Rattle.ipc_laws.proofs.Endings.{closed_once}
use Rattle.ipc_laws.proofs.OneOpen.{meets_one, one_open}
use Rattle.ipc_laws.proofs.OnePhase.{one_phase}
use Rattle.ipc_laws.proofs.Pairing.{begins_once, ended_pair}
use Rattle.ipc_laws.proofs.Together.{over_together}
use Rattle.ipc_laws.proofs.laws.one_at_a_time.Goals as goal

pub returns-clause-calls : goal.returns-clause-calls
returns-clause-calls c = one_open

pub returns-clause-begins : goal.returns-clause-begins
returns-clause-begins c = begins_once

pub returns-clause-ended : goal.returns-clause-ended
returns-clause-ended c = ended_pair

pub returns-clause-meets : goal.returns-clause-meets
returns-clause-meets c = meets_one

pub returns-clause-closed : goal.returns-clause-closed
returns-clause-closed c = closed_once

pub returns-clause-phase : goal.returns-clause-phase
returns-clause-phase c = one_phase

pub returns-clause-opened : goal.returns-clause-opened
returns-clause-opened c = is_open_call

pub returns-clause-order : goal.returns-clause-order
returns-clause-order c = entries_in_order

pub returns-clause-together : goal.returns-clause-together
returns-clause-together c = over_together
