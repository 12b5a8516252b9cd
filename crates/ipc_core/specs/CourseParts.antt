-- What contracts see of a course.
use Rattle.std.specs.Prelude.{◌≡◌, ℕ, List, Option, Some, IsFalse}
use Rattle.ipc_history.specs.HistoryParts.{HeldParts, HistoryParts}
use Rattle.ipc_history.specs.declared.entry.Entry.{Entry}
use Rattle.ipc_history.specs.declared.entry.Entry.TheVariants.{Given}
use Rattle.ipc_history.specs.declared.entry.Input.TheVariants.{Called}
use Rattle.ipc_desks.specs.CallsOf.{is_busy}
use Rattle.ipc_desks.specs.Messages.{PreparedParts, prepared}

-- the entries, what memory holds of them and for how many there is room, the calls whose outcome
-- was taken, the length before the last command, and the threads whose calls it finished
pub record CourseParts : Type 0 where
  pub entries : List Entry
  pub held : HeldParts
  pub room : ℕ
  pub taken : List ℕ
  pub since : ℕ
  pub finished : List ℕ

-- its history, with what memory holds of it
abbrev pub history_of : CourseParts → HistoryParts
history_of course = record { entries = course.entries; held = course.held; room = course.room }

-- the rest of a course stays as it is
pub record SameBooks (old new : CourseParts) : Type 0 where
  pub taken : new.taken ≡ old.taken
  pub since : new.since ≡ old.since
  pub held : new.held ≡ old.held

-- with a call come the copies of its message and of its buffer strings
abbrev pub HasCopies : Entry → Option PreparedParts → Type 0
HasCopies (Given (Called n thread call)) copies = copies ≡ Some (prepared call)
HasCopies _ copies = Unit {0}

-- a call is entered of a thread that is not busy
abbrev pub ComesIdle : List Entry → List ℕ → Entry → Type 0
ComesIdle H taken (Given (Called n thread call)) = IsFalse (is_busy H taken thread)
ComesIdle H taken _ = Unit {0}
