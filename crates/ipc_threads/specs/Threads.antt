-- What a table of threads says: a list of slots, one for each number from 0.
use Rattle.std.specs.Prelude.{ℕ, List, Option, Some, None, Result, Ok, Err, not, ◌&&◌, ◌==◌, is_some}
use Rattle.std.specs.Prelude.{if◌then◌else◌, count_by, option_map, slice_index_or}
use Rattle.ipc_words.specs.ThreadId.{id_of, number_of, version_of}
use Rattle.ipc_words.specs.Version.{next_version_of}
use Rattle.ipc_threads.specs.Ids.{is_space, is_thread_number}
use Rattle.ipc_threads.specs.declared.table.Slot.{Slot}
use Rattle.ipc_threads.specs.declared.refusal.ThreadRefusal.{ThreadRefusal}
use Rattle.ipc_threads.specs.declared.refusal.ThreadRefusal.TheVariants.{BadNumber, NumberTaken, NumberWorn}

-- the slot of a number that had no version yet
abbrev pub blank : Slot
blank = record { last = 0; space = None }

abbrev pub slot_of : List Slot → ℕ → Slot
slot_of table number = slice_index_or table number blank

-- the last version of a number, 0 before its first
abbrev pub last_version_of : List Slot → ℕ → ℕ
last_version_of table number = (slot_of table number).last

-- the space in which the thread of that id is live; none where it is not
abbrev pub live_space_of : List Slot → ℕ → Option ℕ
live_space_of table id =
    if last_version_of table (number_of id) == version_of id then (slot_of table (number_of id)).space
    else None

-- the live thread of a number
abbrev pub live_id_of : List Slot → ℕ → Option ℕ
live_id_of table number =
    option_map (λ _. id_of number (last_version_of table number)) (slot_of table number).space

abbrev pub live_count : List Slot → ℕ
live_count table = count_by (λ slot. is_some slot.space) table

-- the id of a version of a number, if there is one
abbrev pub id_or_worn : ℕ → Option ℕ → Result ℕ ThreadRefusal
id_or_worn number (Some version) = Ok (id_of number version)
id_or_worn number None = Err NumberWorn

-- the id of the next thread of a number in a space, or why there is none: the number or the space
-- is past its limit, else the number is live, else it has no version left
abbrev pub next_id_of : List Slot → ℕ → ℕ → Result ℕ ThreadRefusal
next_id_of table number space =
    if not (is_thread_number number && is_space space) then Err BadNumber
    else (if is_some (slot_of table number).space then Err NumberTaken
    else id_or_worn number (next_version_of (last_version_of table number)))
