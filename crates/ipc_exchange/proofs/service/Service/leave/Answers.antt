use Rattle.std.proofs.Common.{refl}
use Rattle.ipc_core.specs.Obeying.{broke_answer}
use Rattle.ipc_core.proofs.AgainLaws.{break_lacks_none}
use Rattle.ipc_exchange.proofs.RestedLemmas.{rested_alone}
use Rattle.ipc_exchange.proofs.service.Service.leave.Goals as goal

pub returns-in-Some-clause-kernel : goal.returns-in-Some-clause-kernel
returns-in-Some-clause-kernel c = rw c.in-Some.is (_, (broke_answer c.break_thread.result, refl, rested_alone _ _ _ _ (break_lacks_none _ _) c.break_thread.ensures.kernel))
