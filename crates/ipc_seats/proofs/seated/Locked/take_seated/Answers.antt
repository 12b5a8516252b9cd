use Rattle.std.proofs.Common.{rules, arith, sym}
use Rattle.ipc_seats.proofs.Counts.{taken_few}
use Rattle.ipc_seats.proofs.Numbered.{is_next}
use Rattle.ipc_seats.proofs.seated.Locked.take_seated.Goals as goal

pub overflow_add-taken : goal.overflow_add-taken
overflow_add-taken g c =
    let few = taken_few c.args.self.now.kernel c.args.seat.now.thread in
    search (rules, arith)

pub returns-clause-numbered : goal.returns-clause-numbered
returns-clause-numbered g c =
    let next = is_next c.args.self.now.kernel c.args.seat.now.thread _
    (c.history.ensures.counted c.args.seat.now.thread) (sym c.in_ok-outcome.ensures.outcome) in
    search (rules, arith)
