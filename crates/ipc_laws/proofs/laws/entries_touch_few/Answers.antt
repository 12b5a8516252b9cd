use Rattle.ipc_laws.proofs.Closings.{closings_open_nothing}
use Rattle.ipc_laws.proofs.Comes.{next_is_possible}
use Rattle.ipc_laws.proofs.EntryTouches.{entries_touch}
use Rattle.ipc_laws.proofs.Resting.{none_possible}
use Rattle.ipc_laws.proofs.laws.entries_touch_few.Goals as goal

pub returns-clause-next : goal.returns-clause-next
returns-clause-next c = next_is_possible

pub returns-clause-rest : goal.returns-clause-rest
returns-clause-rest c = none_possible

pub returns-clause-entries : goal.returns-clause-entries
returns-clause-entries c = entries_touch

pub returns-clause-closings : goal.returns-clause-closings
returns-clause-closings c = closings_open_nothing
