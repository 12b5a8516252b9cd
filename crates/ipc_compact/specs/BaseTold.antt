-- What the base of a history says, told by what is kept of it and by what its slots know.
use Rattle.std.specs.Prelude.{◌≡◌, ℕ, ◌-◌, ◌%◌, List, Option, Some, None, filter, not, ◌==◌, if◌then◌else◌}
use Rattle.std.specs.Option.{option_map_or}
use Rattle.ipc_history.specs.Calls.{numbers}
use Rattle.ipc_history.specs.Legal.{Legal}
use Rattle.ipc_history.specs.Threads.{next_version}
use Rattle.ipc_history.specs.declared.entry.Entry.{Entry}
use Rattle.ipc_threads.specs.Slots.{live_of}
use Rattle.ipc_compact.specs.Compact.{dropped_of, further_calls, is_among, kept_calls, kept_of, last_version, made_in}

-- the version before the next one of a number: 0 where that is the first, and the last one of all
-- where the number is worn out. No version has low six bits that are all zero
abbrev pub version_before : Option ℕ → ℕ
version_before None = 0xffff_ffff
version_before (Some next) = (if next == 1 then 0 else (if (next - 1) % 64 == 0 then next - 2 else next - 1))

-- so the last version of a number is told by its next one
abbrev pub VersionsTold : Type 0
VersionsTold = (H : List Entry) → Legal H → (k : ℕ) → last_version H k ≡ version_before (next_version H k)

-- how many calls of the live thread of a number are not kept, 0 where it has none
abbrev pub dropped_by : List Entry → List Entry → Option ℕ → ℕ
dropped_by H kept thread = option_map_or (λ t. made_in H t - made_in kept t) thread 0

abbrev pub DroppedTold : Type 0
DroppedTold = (H kept : List Entry) (k : ℕ) → dropped_of H kept k ≡ dropped_by H kept (live_of H k)

-- the calls of which a Called is kept, but for the kept calls, are the further ones, in their order
abbrev pub OverTold : Type 0
OverTold =
    (H : List Entry) (taken : List ℕ)
    → filter (λ n. not (is_among n (kept_calls H taken))) (numbers (kept_of H taken)) ≡ further_calls H taken
