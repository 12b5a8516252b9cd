-- How many calls a thread made is told by what is kept and by the base.
use Rattle.std.specs.Prelude.{◌≡◌, ℕ, ◌+◌, List, IsTrue}
use Rattle.ipc_words.specs.ThreadId.{number_of}
use Rattle.ipc_history.specs.Legal.{Legal}
use Rattle.ipc_history.specs.Threads.{is_live}
use Rattle.ipc_history.specs.declared.entry.Entry.{Entry}
use Rattle.ipc_compact.specs.Compact.{dropped_of, kept_of, made_in}

abbrev pub CallsCounted : Type 0
CallsCounted =
    (H : List Entry) (taken : List ℕ) → Legal H → (t : ℕ) → IsTrue (is_live H t)
    → made_in (kept_of H taken) t + dropped_of H (kept_of H taken) (number_of t) ≡ made_in H t
