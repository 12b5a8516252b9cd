use Rattle.ipc_laws.proofs.Growth.{open_is_called, over_kept}
use Rattle.ipc_laws.proofs.Histories.{named_open}
use Rattle.ipc_laws.proofs.Normal.{calls_are_normal, normal_message}
use Rattle.ipc_laws.proofs.Numbering.{numbered}
use Rattle.ipc_laws.proofs.laws.calls_last.Goals as goal

pub returns-clause-over : goal.returns-clause-over
returns-clause-over c = over_kept

pub returns-clause-named : goal.returns-clause-named
returns-clause-named c = λ P e f n h no. let o = named_open P e f n h no in (open_is_called P n o, o)

pub returns-clause-numbered : goal.returns-clause-numbered
returns-clause-numbered c = numbered

pub returns-clause-normal : goal.returns-clause-normal
returns-clause-normal c = calls_are_normal

pub returns-clause-messages : goal.returns-clause-messages
returns-clause-messages c = normal_message
