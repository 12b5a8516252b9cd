use Rattle.ipc_laws.proofs.Exchanging.{exchanges}
use Rattle.ipc_laws.proofs.Later.{exchanges_later}
use Rattle.ipc_laws.proofs.Unmet.{waits_on}
use Rattle.ipc_laws.proofs.laws.calls_of_words.Goals as goal

pub returns-clause-exchanges : goal.returns-clause-exchanges
returns-clause-exchanges c = λ P n thread call r legal follows reaches. exchanges P n thread call legal follows r reaches

pub returns-clause-later : goal.returns-clause-later
returns-clause-later c = exchanges_later

pub returns-clause-waits : goal.returns-clause-waits
returns-clause-waits c = waits_on
