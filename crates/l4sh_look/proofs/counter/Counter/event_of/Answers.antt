use Rattle.std.proofs.Common.{subst, sym}
use Rattle.ipc_history.specs.Legal.{Legal}
use Rattle.ipc_check.proofs.Walks.{fault_whole}
use Rattle.l4sh_look.proofs.counter.Counter.event_of.Goals as goal

pub returns-in-Err : goal.returns-in-Err
returns-in-Err c legal follows =
    let fault = c.in-Err.ensures.fault in
    absurd (fault_whole c.self.inside.checker c.in-Err.field-0 fault.0 fault.1 (subst Legal (sym c.self.view_is) legal))
