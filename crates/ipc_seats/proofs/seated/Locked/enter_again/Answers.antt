use Rattle.std.proofs.Common.{refl, sym, ◌∙◌}
use Rattle.ipc_seats.proofs.Again.{enter_so, seat_first}
use Rattle.ipc_seats.proofs.seated.Locked.enter_again.Goals as goal

pub returns-in-Ok-clause-obeys : goal.returns-in-Ok-clause-obeys
returns-in-Ok-clause-obeys g c = seat_first _ _ _ _ _ _ c.in-Ok.ensures.obeys refl

pub returns-then-not-is_history_full-clause-obeys : goal.returns-then-not-is_history_full-clause-obeys
returns-then-not-is_history_full-clause-obeys g c =
    seat_first _ _ _ _ _ _ c.in-Err.ensures.obeys (sym c.is_history_full.ensures ∙ c.if-not-is_history_full.true)

pub returns-else-not-is_history_full-clause-obeys : goal.returns-else-not-is_history_full-clause-obeys
returns-else-not-is_history_full-clause-obeys g c =
    enter_so _ _ _ _ _ _ _ _ _ _ _ c.in-Err.ensures.err c.in-Err.ensures.err_seat c.enter_seated.ensures.thread
    c.in-Err.ensures.back c.in-Err.ensures.obeys (sym c.is_history_full.ensures ∙ c.if-not-is_history_full.false)
    c.enter_roomy.ensures.obeys
