-- What contracts see of a kernel.
use Rattle.std.specs.Prelude.{ℕ, List, []}
use Rattle.ipc_history.specs.HistoryParts.{HeldParts, HistoryParts}
use Rattle.ipc_history.specs.declared.entry.Entry.{Entry}

-- the greatest number of entries, with those that were let go, and of calls, the moment in
-- microseconds, the history, what memory holds of it, the numbers of the calls whose outcome was
-- taken, in that order, how long the history was before the last command that was obeyed, and for
-- how many entries the history has room, with those that were let go
pub record KernelParts : Type 0 where
  pub entries_limit : ℕ
  pub calls_limit : ℕ
  pub moment : ℕ
  pub history : List Entry
  pub held : HeldParts
  pub taken : List ℕ
  pub since : ℕ
  pub room : ℕ

-- its history, with what memory holds of it
abbrev pub history_of : KernelParts → HistoryParts
history_of kernel = record { entries = kernel.history; held = kernel.held; room = kernel.room }

-- memory holds the whole history, which has no entry yet, and none is marked
abbrev pub nothing_held : HeldParts
nothing_held = record { front = []; places = []; whole_from = 0; mark = 0 }

-- all that is seen but the room
abbrev pub without_room : KernelParts → KernelParts
without_room kernel = record kernel { room = 0 }
