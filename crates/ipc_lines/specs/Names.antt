-- The names that entries begin with.
use Rattle.std.specs.Prelude.{ℕ, List, [], ◌∷◌, Option, codes, find}
use Rattle.std.specs.Str.{bytes_eq}
use Rattle.ipc_lines.specs.declared.reading.names.EntryName.{EntryName}
use Rattle.ipc_lines.specs.declared.reading.names.EntryName.TheVariants.{At, Opened, Called, Exreg, Broke, Moved}
use Rattle.ipc_lines.specs.declared.reading.names.EntryName.TheVariants.{Began, Turned, Ended, Overflowed, Aborted, Failed}

abbrev pub entry_name : EntryName → List ℕ
entry_name At = codes "at"
entry_name Opened = codes "opened"
entry_name Called = codes "called"
entry_name Exreg = codes "exreg"
entry_name Broke = codes "broke"
entry_name Moved = codes "moved"
entry_name Began = codes "began"
entry_name Turned = codes "turned"
entry_name Ended = codes "ended"
entry_name Overflowed = codes "overflowed"
entry_name Aborted = codes "aborted"
entry_name Failed = codes "failed"

-- all of them
abbrev pub entry_names : List EntryName
entry_names =
    At ∷ Opened ∷ Called ∷ Exreg ∷ Broke ∷ Moved ∷ Began ∷ Turned ∷ Ended ∷ Overflowed ∷ Aborted ∷ Failed ∷ []

-- the kind of entry of a name
abbrev pub name_in : List ℕ → Option EntryName
name_in text = find (λ name. bytes_eq text (entry_name name)) entry_names
