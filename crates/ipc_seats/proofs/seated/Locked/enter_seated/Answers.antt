use Rattle.std.proofs.Common.{rules, arith, ◌≡◌}
use Rattle.ipc_core.specs.Outcomes.{made_by}
use Rattle.ipc_core.proofs.Few.{obeys_few}
use Rattle.ipc_seats.proofs.Counts.{calls_entered, made_few, opens_entered, seat_refuses}
use Rattle.ipc_seats.proofs.seated.Locked.enter_seated.Goals as goal

pub returns-in_err-number-clause-cause : goal.returns-in_err-number-clause-cause
returns-in_err-number-clause-cause g c =
    let same : c.args.seat.now.made ≡ made_by c.args.self.now.kernel.history c.args.seat.now.thread = search rules in
    let refuses = seat_refuses _ _ _ _ same c.in_err-number.ensures.cause in
    search rules

pub invariant_of-self-2 : goal.invariant_of-self-2
invariant_of-self-2 g c =
    let made = calls_entered _ _ _ _ _ c.in_ok-number.ensures.ok.1 in
    let opened = opens_entered _ _ _ _ _ c.in_ok-number.ensures.ok.1 in
    let taken = c.in_ok-number.ensures.ok.1.taken in
    search (rules, arith)

pub overflow_add-made : goal.overflow_add-made
overflow_add-made g c =
    let few = made_few c.args.self.now.kernel.history c.args.seat.now.thread in
    search (rules, arith)

pub returns-clause-few : goal.returns-clause-few
returns-clause-few g c = obeys_few _ _ _ _ c.enter.ensures.obeys c.history-2.ensures.legal
