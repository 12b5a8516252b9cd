-- Compacting a second time, after more entries and with more outcomes taken.
use Rattle.std.specs.Prelude.{◌≡◌, ℕ, List, ◌++◌, IsTrue}
use Rattle.ipc_history.specs.Legal.{Legal}
use Rattle.ipc_history.specs.declared.entry.Entry.{Entry}
use Rattle.ipc_compact.specs.Compact.{is_among, is_kept, kept_list, kept_of}
use Rattle.ipc_compact.specs.Reads.{Narrower}

-- each call of the one list is in the other
abbrev pub AreAmong : List ℕ → List ℕ → Type 0
AreAmong taken later = (n : ℕ) → IsTrue (is_among n taken) → IsTrue (is_among n later)

-- of the entries of P a later compaction keeps no more than one of P does: what was let go is not
-- needed again
abbrev pub NotNeededAgain : Type 0
NotNeededAgain =
    (P X : List Entry) (taken later : List ℕ) → Legal (P ++ X) → AreAmong taken later
    → Narrower (is_kept P taken) (is_kept (P ++ X) later) P

-- so what is kept of the whole past is kept of what the earlier compaction kept and of what came
-- since
abbrev pub KeptLater : Type 0
KeptLater =
    (P X : List Entry) (taken later : List ℕ) → Legal (P ++ X) → AreAmong taken later
    → kept_of (P ++ X) later ≡ kept_list (is_kept (P ++ X) later) (kept_of P taken ++ X)
