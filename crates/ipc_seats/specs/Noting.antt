-- What a step has begun, and whose calls it finished.
use Rattle.std.specs.Prelude.{◌≡◌, ℕ, ◌+◌, ◌++◌, ◌≤◌, ◌==◌, ◌||◌, length, List, [], Bool, true, false, nat_lt, count_by, drop}
use Rattle.ipc_history.specs.declared.entry.Entry.{Entry}
use Rattle.ipc_history.specs.declared.entry.Entry.TheVariants.{Written}
use Rattle.ipc_history.specs.declared.entry.Output.TheVariants.{Began, Ended}
use Rattle.std.specs.List.{IsDistinct}
use Rattle.ipc_core.specs.Effects.{Ticks}
use Rattle.ipc_core.specs.KernelParts.{KernelParts}
use Rattle.ipc_core.specs.declared.command.Command.{Command}
use Rattle.ipc_core.specs.declared.command.Command.TheVariants.{Broke}
use Rattle.ipc_seats.specs.Upkeeping.{LetsGo, noted}
use Rattle.ipc_seats.specs.declared.upkeep.Upkeep.{Upkeep}
use Rattle.ipc_core.specs.Outcomes.{is_among, is_finished}

-- an entry begins a transfer, or ends one
abbrev pub is_began : Entry → Bool
is_began (Written (Began sender receiver)) = true
is_began _ = false

abbrev pub is_ended : Entry → Bool
is_ended (Written (Ended sender receiver)) = true
is_ended _ = false

-- more have begun among these entries than have ended
abbrev pub has_begun : List Entry → Bool
has_begun entries = nat_lt (count_by is_ended entries) (count_by is_began entries)

-- the same of the entries from a place on; also where memory holds some of them no more, so that
-- nothing is known of those
abbrev pub has_begun_since : KernelParts → ℕ → Bool
has_begun_since kernel before = nat_lt before kernel.held.whole_from || has_begun (drop before kernel.history)

-- the threads whose calls the last command finished, each once, came behind those that were there,
-- where a list with so much room has room for them
pub record Notes (kernel : KernelParts) (before after : List ℕ) (room : ℕ) : Type 0 where
  pub threads : List ℕ
  pub finished : (thread : ℕ) → is_among thread threads ≡ is_finished kernel thread
  pub once : IsDistinct (λ (a b : ℕ). a == b) threads
  pub noted : length before + length threads ≤ room → after ≡ before ++ threads

-- the same of a step: of its clock reading, and then of its command
pub record NotesStep (old new : KernelParts) (now : ℕ) (before after : List ℕ) (room : ℕ) : Type 0 where
  pub between : KernelParts
  pub middle : List ℕ
  pub ticks : Ticks old between now
  pub ticked : Notes between before middle room
  pub obeyed : Notes new middle after room

-- the same of a step, before which memory lets go of entries where that is due, in a list that was
-- empty
pub record NotesOn (upkeep after : Upkeep) (old new : KernelParts) (now : ℕ) (command : Command) (finished : List ℕ) (room : ℕ) : Type 0 where
  pub before : KernelParts
  pub lets_go : LetsGo (noted command upkeep) after old before
  pub notes : NotesStep before new now [] finished room

-- a command ends a thread
abbrev pub is_break : Command → Bool
is_break (Broke thread) = true
is_break _ = false
