-- The base of a history, written by a walk over its threads, and one over what is kept of it.
use Rattle.std.specs.Prelude.{ℕ, List, [], map, Option, Some, None, option_and_then, if◌then◌else◌}
use Rattle.ipc_history.specs.Entries.{number_in}
use Rattle.ipc_history.specs.declared.entry.Entry.{Entry}
use Rattle.ipc_compact.specs.BaseRoom.{BaseParts}
use Rattle.ipc_compact.specs.Compact.{dropped_of, from, is_among, kept_calls, last_version}

-- the call that an entry enters, where it is no kept call: of those that are kept it counts as over
abbrev pub over_in : List Entry → List ℕ → Entry → Option ℕ
over_in H taken e = option_and_then (λ n. if is_among n (kept_calls H taken) then None else Some n) (number_in e)

-- what is written of so many first thread numbers, where these entries are kept
unfoldable pub written_to : List Entry → List Entry → ℕ → BaseParts
written_to H kept count = record {
  versions = map (last_version H) (from 0 count);
  dropped = map (dropped_of H kept) (from 0 count);
  over = [];
}
