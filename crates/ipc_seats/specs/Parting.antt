-- A part of a trace that begins where the history ends: what stands beside it, and who has the
-- entries before it.
use Rattle.std.specs.Prelude.{◌≡◌, ℕ, List, IfSome, drop, length}
use Rattle.ipc_history.specs.Holding.{marked_to}
use Rattle.ipc_history.specs.declared.entry.Entry.{Entry}
use Rattle.ipc_compact.specs.Compact.{base_of, kept_of}
use Rattle.ipc_core.specs.Compacting.{Compacts}
use Rattle.ipc_core.specs.KernelParts.{KernelParts}
use Rattle.ipc_core.specs.declared.answers.Compacted.{Compacted}
use Rattle.ipc_seats.specs.Upkeeping.{restarted}
use Rattle.ipc_seats.specs.declared.part.Behind.{Behind}
use Rattle.ipc_seats.specs.declared.part.HeldPart.{HeldPart}
use Rattle.ipc_seats.specs.declared.upkeep.Upkeep.{Upkeep}

-- a kernel whose whole history is marked
abbrev pub all_marked : KernelParts → KernelParts
all_marked kernel = record kernel { held = marked_to (length kernel.history) kernel.held }

-- memory lets go of the whole history but for what is kept beside its base; nothing else changes
abbrev pub LetsGoOfAll : KernelParts → KernelParts → Compacted → Type 0
LetsGoOfAll old new done = Compacts (all_marked old) new (all_marked old).held.mark done

-- the same, and the next time counts from here
pub record LetGoOfAll (upkeep after : Upkeep) (old new : KernelParts) : Type 0 where
  pub done : Compacted
  pub compacts : LetsGoOfAll old new done
  pub restarts : after ≡ restarted done.left (length old.history) upkeep

-- the base and the kept entries of a history, where these outcomes were taken
pub record IsPartOf (history : List Entry) (taken : List ℕ) (part : HeldPart) : Type 0 where
  pub base : part.base ≡ base_of history taken
  pub kept : part.kept.items ≡ kept_of history taken

-- the entries from a place on, and the part that begins behind them, where there was memory for it
pub record IsBehind (history : List Entry) (taken : List ℕ) (place : ℕ) (behind : Behind) : Type 0 where
  pub rest : behind.rest.items ≡ drop place history
  pub part : IfSome behind.part (IsPartOf history taken)
