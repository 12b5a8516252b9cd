-- Slots that are made from what was kept of a history, one thread number after another.
use Rattle.std.specs.Prelude.{◌≡◌, ◌≤◌, ℕ, Option, Some, None, ⊤}
use Rattle.ipc_words.specs.Limits.{max_space, table_slots}
use Rattle.ipc_words.specs.ThreadId.{id_of}
use Rattle.ipc_words.specs.Version.{next_version_of}
use Rattle.ipc_threads.specs.Slot.{Slot}
use Rattle.ipc_threads.specs.declared.last.Last.TheVariants.{Nothing}
use Rattle.ipc_threads.specs.declared.slot.Live.{Live}
use Rattle.ipc_threads.specs.declared.kept.KeptSlots.{KeptSlots}

-- slots at a moment (time), after so many calls, where nothing comes of the last entry
pub record IsMade (slots : KeptSlots) (time calls : ℕ) : Type 0 where
  pub moment : slots.moment ≡ time
  pub calls_made : slots.calls_made ≡ calls
  pub top : slots.top ≡ table_slots
  pub last : slots.last ≡ Nothing

-- a live thread has this number and version, and its space is within its limit
abbrev pub IsOfNumber : ℕ → ℕ → Option Live → Type 0
IsOfNumber k version None = ⊤
IsOfNumber k version (Some live) = (live.thread ≡ id_of k version) × (live.space ≤ max_space)

-- the slot of a number whose last thread had this version
abbrev pub made_slot : ℕ → Option Live → Slot
made_slot version live = record { version = next_version_of version; live = live }
