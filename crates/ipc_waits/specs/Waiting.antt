-- What a history says of who waits, as a program keeps it.
use Rattle.std.specs.Prelude.{ℕ, List, IsTrue, IsFalse}
use Rattle.ipc_words.specs.ThreadId.{number_of}
use Rattle.ipc_history.specs.Calls.{caller_of}
use Rattle.ipc_history.specs.Entries.{names}
use Rattle.ipc_history.specs.Phases.{is_over}
use Rattle.ipc_history.specs.declared.entry.Entry.{Entry}
use Rattle.ipc_waits.specs.Finding.{CoversAt, is_among, touched}
use Rattle.ipc_waits.specs.Keys.{AreWaits}
use Rattle.ipc_waits.specs.declared.waiting.Waiting.{Waiting}

-- the queues have the waits of the calls that the slots hold, and each output that is
-- possible is found under a call at one of the places
pub record IsWaiting (waiting : Waiting) : Type 0 where
  pub waits : AreWaits waiting.slots.kept.table waiting.waits
  pub covers : CoversAt waiting.slots.past waiting.candidates

-- before an entry: the places have those under whose calls an output is found, and those of the
-- calls that the entry touches without naming them
pub record IsTouched (P : List Entry) (e : Entry) (places : List ℕ) : Type 0 where
  pub base : List ℕ
  pub covers : CoversAt P base
  pub kept : (k : ℕ) → IsTrue (is_among base k) → IsTrue (is_among places k)
  pub unnamed : (n : ℕ) → IsTrue (is_among (touched P e) n) → IsFalse (names n e)
      → IsFalse (is_over P n) × IsTrue (is_among places (number_of (caller_of P n)))
