-- What was taken.
use Rattle.ipc_seats.specs.Gifts.{outcomes_in}
use Rattle.ipc_lock.proofs.logged.Logged.take_for.Given as goal

abbrev pub ghost-outcomes : goal.ghost-outcomes
ghost-outcomes g a = outcomes_in a.taken.now
