-- Whether the pen lay there at its end, and what it was given.
use Rattle.std.specs.Prelude.{slice_get}
use Rattle.ipc_seats.specs.Gifts.{gifts_of_work, idle_in}
use Rattle.ipc_lock.proofs.logged.Logged.work.Given as goal

abbrev pub ghost-idle_at : goal.ghost-idle_at
ghost-idle_at g a = idle_in (slice_get a.inside.now.boxes.items a.place)

abbrev pub ghost-gifts_of_work : goal.ghost-gifts_of_work
ghost-gifts_of_work g a = gifts_of_work a.idle.now a.next.now
