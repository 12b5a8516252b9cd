-- The number of the connection of the box.
use Rattle.std.specs.Prelude.{slice_get}
use Rattle.ipc_seats.specs.Gifts.{number_in}
use Rattle.ipc_lock.proofs.logged.Logged.post.Given as goal

abbrev pub ghost-number_at : goal.ghost-number_at
ghost-number_at g a = number_in (slice_get a.inside.now.boxes.items a.place)
