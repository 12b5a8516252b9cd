-- The slots of a history (ipc_threads) are read of what is kept of it and of the base: its last
-- versions, and the calls that count as over.
use Rattle.std.specs.Prelude.{◌≡◌, ℕ, List, Option, option_map, find, not, ◌&&◌, ◌==◌}
use Rattle.ipc_words.specs.Version.{next_version_of}
use Rattle.ipc_history.specs.Calls.{caller_of, numbers}
use Rattle.ipc_history.specs.Legal.{Legal}
use Rattle.ipc_history.specs.Phases.{is_over}
use Rattle.ipc_history.specs.Threads.{space_of}
use Rattle.ipc_history.specs.declared.entry.Entry.{Entry}
use Rattle.ipc_threads.specs.Slot.{Slot}
use Rattle.ipc_threads.specs.Slots.{live_of, slot_of}
use Rattle.ipc_threads.specs.Standings.{standing_of}
use Rattle.ipc_threads.specs.declared.slot.Live.{Live}
use Rattle.ipc_compact.specs.Compact.{further_calls, is_among, kept_of, last_version}

-- the open call of a thread: the one that is not over, and does not count as over
abbrev pub open_from : List Entry → List ℕ → ℕ → Option ℕ
open_from K over t = find (λ n. (caller_of K n == t) && not (is_over K n) && not (is_among n over)) (numbers K)

abbrev pub live_from : List Entry → List ℕ → ℕ → Live
live_from K over t = record { thread = t; space = space_of K t; call = option_map (standing_of K) (open_from K over t) }

abbrev pub slot_from : List Entry → List ℕ → ℕ → ℕ → Slot
slot_from K over version k =
    record { version = next_version_of version; live = option_map (live_from K over) (live_of K k) }

abbrev pub SlotsKept : Type 0
SlotsKept =
    (H : List Entry) (taken : List ℕ) → Legal H → (k : ℕ)
    → slot_of H k ≡ slot_from (kept_of H taken) (further_calls H taken) (last_version H k) k
