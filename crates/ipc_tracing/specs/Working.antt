-- What the workers do that no connection has.
use Rattle.std.specs.Prelude.{ℕ, Bool, List, Option, None}
use Rattle.std.specs.Io.KnownBytes.{Appends}
use Rattle.ipc_core.specs.declared.command.Answer.{Answer}
use Rattle.ipc_core.specs.declared.command.Command.TheVariants.{At}
use Rattle.ipc_history.specs.declared.entry.Entry.{Entry}
use Rattle.ipc_lock.specs.Above.{ActsSome, AdvancesSome, GroupOfSome}
use Rattle.ipc_trace.specs.Traces.{trace_text}

-- a step was made that moves a part of what is in transfer, if there is any: whether it did
pub record MovesSome (C P : Type 0) (moved : Bool) : Type 0 where
  pub now : ℕ
  pub advances : AdvancesSome C P now moved

-- the kernel was told the moment
pub record TicksSome (C P : Type 0) : Type 0 where
  pub now : ℕ
  pub answer : Answer
  pub acts : ActsSome {C = C} P now None (At now) answer

-- the lines were put of the entries that the history has from a place on
pub record PutsGroup (C P : Type 0) (index : ℕ) (old new : Option (List ℕ)) : Type 0 where
  pub group : List Entry
  pub is_of : GroupOfSome C P index group
  pub puts : Appends old new (trace_text group)
