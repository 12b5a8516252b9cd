-- The slots of thread numbers, as a table of threads and a list of their open calls say them.
use Rattle.std.specs.Prelude.{◌≡◌, ℕ, ◌+◌, List, [], ◌∷◌, Option, Some, None, ◌==◌, count_by, is_some}
use Rattle.std.specs.Prelude.{option_map, option_and_then, if◌then◌else◌, slice_index_or}
use Rattle.std.specs.Option.{option_map_or}
use Rattle.ipc_words.specs.ThreadId.{id_of, number_of, version_of}
use Rattle.ipc_words.specs.Version.{next_version_of}
use Rattle.ipc_threads.specs.Ids.{IsPlace}
use Rattle.ipc_threads.specs.declared.table.Slot.{Slot as Numbered}
use Rattle.ipc_threads.specs.Slot.{Slot}
use Rattle.ipc_threads.specs.declared.slot.Live.{Live}
use Rattle.ipc_threads.specs.declared.slot.Standing.{Standing}

-- the live thread of the number k, with its open call
abbrev pub live_from : ℕ → Numbered → Option Standing → Option Live
live_from k numbered call =
    option_map (λ space. record { thread = id_of k numbered.last; space = space; call = call }) numbered.space

abbrev pub slot_from : ℕ → Numbered → Option Standing → Slot
slot_from k numbered call = record { version = next_version_of numbered.last; live = live_from k numbered call }

-- the slots of the numbers from k on
abbrev pub slots_from : ℕ → List Numbered → List (Option Standing) → List Slot
slots_from k (x ∷ xs) (c ∷ cs) = slot_from k x c ∷ slots_from (k + 1) xs cs
slots_from k xs cs = []

-- the slot of a number that had no thread yet, and of each number in a table
abbrev pub blank : Slot
blank = record { version = Some 1; live = None }

abbrev pub slot_at : List Slot → ℕ → Slot
slot_at table k = slice_index_or table k blank

-- the slot of a thread that opens, and a slot whose thread ends
abbrev pub fresh : ℕ → ℕ → Slot
fresh t space = record {
  version = next_version_of (version_of t);
  live = Some (record { thread = t; space = space; call = None });
}

abbrev pub ended : Slot → Slot
ended slot = record slot { live = None }

-- the live thread of an id, in a table
abbrev pub if_thread : ℕ → Live → Option Live
if_thread t l = (if l.thread == t then Some l else None)

abbrev pub live_in : List Slot → ℕ → Option Live
live_in table t = option_and_then (if_thread t) (slot_at table (number_of t)).live

-- and its space, 0 where it is not live
abbrev pub space_in : List Slot → ℕ → ℕ
space_in table t = option_map_or (λ l. l.space) (live_in table t) 0

-- and its open call
abbrev pub open_call_in : List Slot → ℕ → Option Standing
open_call_in table t = option_and_then (λ l. l.call) (live_in table t)

-- how many threads are live
abbrev pub live_slots : List Slot → ℕ
live_slots table = count_by (λ slot. is_some slot.live) table

-- a thread may open in a space: its number and the space are within their limits, the number is
-- free, and the version its next one
pub record MayOpen (table : List Slot) (thread space : ℕ) : Type 0 where
  pub place : IsPlace (number_of thread) space
  pub free : (slot_at table (number_of thread)).live ≡ None
  pub version : (slot_at table (number_of thread)).version ≡ Some (version_of thread)
