-- What the writer of a connection does.
use Rattle.std.specs.Prelude.{ℕ, Some, false}
use Rattle.ipc_seats.specs.Places.{OnlyWrites}
use Rattle.ipc_lock.specs.Above.{EndsSome, EndsWorkSome, LaysSome, TakesOutSome}
use Rattle.ipc_connection.specs.Pens.{Page}

-- it was written with a pen, which was given nothing, and the pen was laid down in the box of its
-- connection
pub record WritesAndLays (C P : Type 0) (pen : Page) : Type 0 where
  pub written : Page
  pub writes : OnlyWrites (Some pen) (Some written)
  pub lays : LaysSome C P written

-- the pen of the connection of this number came out of the box of this place, and was written with
-- and laid down
pub record TakesTurn (C P : Type 0) (place number : ℕ) : Type 0 where
  pub pen : Page
  pub takes : TakesOutSome C P place number pen
  pub writes : WritesAndLays C P pen

-- nothing more is written for the connection of this number; then the box of this place was shut,
-- and its thread, if there is one, was broken at a moment
pub record EndsWriting (C T P : Type 0) (place number : ℕ) : Type 0 where
  pub over : EndsWorkSome C T P place number
  pub now : ℕ
  pub ends : EndsSome C P now place number false
