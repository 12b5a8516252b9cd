use Rattle.ipc_compact.proofs.RowLemmas.{received_row, broken_row, neither_row, moments_row, sender_row, strings_row}
use Rattle.ipc_compact.proofs.laws.rows.Goals as goal

pub returns-clause-received : goal.returns-clause-received
returns-clause-received c = received_row

pub returns-clause-broken : goal.returns-clause-broken
returns-clause-broken c = broken_row

pub returns-clause-neither : goal.returns-clause-neither
returns-clause-neither c = neither_row

pub returns-clause-moments : goal.returns-clause-moments
returns-clause-moments c = moments_row

pub returns-clause-strings : goal.returns-clause-strings
returns-clause-strings c = strings_row

pub returns-clause-sender : goal.returns-clause-sender
returns-clause-sender c = sender_row
