-- When memory lets go of entries of the history.
use Rattle.std.specs.Prelude.{◌≡◌, ℕ, ◌+◌, ◌-◌, ◌*◌, ◌/◌, ◌^◌, ◌≤◌, List, Bool, ◌&&◌, ◌||◌, nat_le, min, max, length, MatchBool}
use Rattle.ipc_words.specs.Limits.{block_bytes, max_string_bytes, table_slots}
use Rattle.ipc_items.specs.Strings.{size_of}
use Rattle.ipc_history.specs.CallParts.{CallParts}
use Rattle.ipc_history.specs.Holding.{held_of}
use Rattle.ipc_history.specs.Legal.{Legal}
use Rattle.ipc_history.specs.declared.entry.Entry.{Entry}
use Rattle.ipc_laws.specs.Counting.{pledged}
use Rattle.ipc_core.specs.Compacting.{Compacts}
use Rattle.ipc_core.specs.KernelParts.{KernelParts, history_of}
use Rattle.ipc_core.specs.Room.{call_need}
use Rattle.ipc_core.specs.declared.answers.Compacted.{Compacted}
use Rattle.ipc_core.specs.declared.command.Command.{Command}
use Rattle.ipc_core.specs.declared.command.Command.TheVariants.{Enter}
use Rattle.ipc_seats.specs.declared.upkeep.Upkeep.{Upkeep}

-- so many entries are held before any is let go
abbrev pub few_entries : ℕ
few_entries = 4096

-- so many bytes of strings come before any entry is let go, where the entries are few
abbrev pub few_bytes : ℕ
few_bytes = 4 * block_bytes

-- so many entries below the limit it is near: four for each block that each thread may send
abbrev pub near_the_limit : ℕ
near_the_limit = 4 * table_slots * (max_string_bytes / block_bytes)

-- there is room for all that may be pledged, and that the largest call needs
abbrev pub NearCovers : Type 0
NearCovers =
    (H : List Entry) (call : CallParts) → Legal H → size_of call.strings ≤ max_string_bytes
    → pledged H + call_need call ≤ near_the_limit

-- at first, where so many entries may be held
abbrev pub first_upkeep : ℕ → Upkeep
first_upkeep limit = record { reached = 0; next = few_entries; bytes = 0; near = limit - near_the_limit }

-- a number as 64 bits hold it
abbrev pub within_word : ℕ → ℕ
within_word n = min n (2 ^ 64 - 1)

-- the strings of a command are counted
abbrev pub noted : Command → Upkeep → Upkeep
noted (Enter thread call) upkeep = record upkeep { bytes = within_word (upkeep.bytes + size_of call.strings) }
noted command upkeep = upkeep

-- entries are to be let go where so many are held, and the history is marked up to this place
abbrev pub is_due : Upkeep → ℕ → ℕ → Bool
is_due upkeep held marked =
    nat_le upkeep.next held || nat_le few_bytes upkeep.bytes
    || (nat_le upkeep.near held && nat_le few_entries (marked - upkeep.reached))

-- begun anew, where so many entries were left, and those before a place had their chance to go
abbrev pub restarted : ℕ → ℕ → Upkeep → Upkeep
restarted left reached upkeep =
    record upkeep { reached = reached; next = max (within_word (left * 2)) few_entries; bytes = 0 }

-- memory lets go of the entries that are marked and need not be kept, which changes no answer
pub record LetGo (upkeep after : Upkeep) (old new : KernelParts) : Type 0 where
  pub done : Compacted
  pub compacts : Compacts old new old.held.mark done
  pub restarts : after ≡ restarted done.left (min old.held.mark (length old.history)) upkeep

-- it does so exactly where that is due
abbrev pub LetsGo : Upkeep → Upkeep → KernelParts → KernelParts → Type 0
LetsGo upkeep after old new =
    MatchBool (is_due upkeep (length (held_of (history_of old))) old.held.mark)
    (LetGo upkeep after old new)
    ((new ≡ old) × (after ≡ upkeep))
