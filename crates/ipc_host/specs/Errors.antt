-- What the system says of a send that moved nothing.
use Rattle.std.specs.Prelude.{◌==◌, ◌||◌, Bool, false, ℤ, pos, negsuc}

-- EAGAIN, there is no room; EINTR, a signal came
abbrev pub is_no_room : ℤ → Bool
is_no_room (pos n) = (n == 11) || (n == 4)
is_no_room (negsuc n) = false
