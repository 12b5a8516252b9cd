-- What is held of a past after a compaction: the entries that it kept, and those that came since.
-- It is enough for the next one.
use Rattle.std.specs.Prelude.{◌≡◌, ℕ, List, ◌++◌, ◌||◌, IsTrue}
use Rattle.ipc_history.specs.Calls.{call_at}
use Rattle.ipc_history.specs.Legal.{Legal}
use Rattle.ipc_history.specs.Matching.{shown_sender}
use Rattle.ipc_history.specs.Threads.{is_live, space_of}
use Rattle.ipc_history.specs.declared.entry.Entry.{Entry}
use Rattle.ipc_compact.specs.Compact.{further_calls, is_among, is_further, kept_calls, kept_of}
use Rattle.ipc_compact.specs.Later.{AreAmong}

-- the call n, and the sender that it shows
pub record SaysOf (K H : List Entry) (n : ℕ) : Type 0 where
  pub call : call_at K n ≡ call_at H n
  pub shown : shown_sender K n ≡ shown_sender H n

-- the calls that an entry names beside a call that the next compaction keeps are named so by an
-- entry that is held
abbrev pub FurtherHeld : Type 0
FurtherHeld =
    (P X : List Entry) (taken later : List ℕ) → Legal (P ++ X) → AreAmong taken later → (n : ℕ)
    → is_further (kept_of P taken ++ X) (kept_calls (P ++ X) later) n
    ≡ is_further (P ++ X) (kept_calls (P ++ X) later) n

-- what is held says of each of these calls what the past says
abbrev pub CallsHeld : Type 0
CallsHeld =
    (P X : List Entry) (taken later : List ℕ) → Legal (P ++ X) → AreAmong taken later → (n : ℕ)
    → IsTrue (is_among n (kept_calls (P ++ X) later) || is_among n (further_calls (P ++ X) later))
    → SaysOf (kept_of P taken ++ X) (P ++ X) n

-- the same threads live, in the same spaces
abbrev pub LiveHeld : Type 0
LiveHeld =
    (P X : List Entry) (taken : List ℕ) → Legal (P ++ X) → (t : ℕ)
    → (is_live (kept_of P taken ++ X) t ≡ is_live (P ++ X) t)
    × (IsTrue (is_live (P ++ X) t) → space_of (kept_of P taken ++ X) t ≡ space_of (P ++ X) t)
