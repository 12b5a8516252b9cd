-- The threads whose calls a command finished, as entries are appended.
use Rattle.std.specs.Prelude.{◌≡◌, ℕ, List, [], ◌∷◌, ◌++◌, Bool, false, ◌||◌, Option, Some, None, if◌then◌else◌, take, IsTrue}
use Rattle.ipc_history.specs.Entries.{breaks, opens}
use Rattle.ipc_history.specs.declared.entry.Entry.{Entry}
use Rattle.ipc_desks.specs.CallsOf.{calls_by}
use Rattle.ipc_core.specs.CourseParts.{CourseParts}
use Rattle.ipc_core.specs.Outcomes.{finished_from, is_among}

-- one more name, where it is not yet there
abbrev pub with_name : List ℕ → Option ℕ → List ℕ
with_name names None = names
with_name names (Some t) = (if is_among t names then names else names ++ t ∷ [])

-- an entry by which a thread opens, calls or ends
abbrev pub is_of : ℕ → Entry → Bool
is_of thread e = opens thread e || calls_by thread e || breaks thread e

-- the command has not finished a call of the thread that opens, calls or ends by the entry
abbrev pub IsFresh : CourseParts → Entry → Type 0
IsFresh course e =
    (thread : ℕ) → IsTrue (is_of thread e)
    → finished_from (take course.since course.entries) course.entries thread ≡ false
