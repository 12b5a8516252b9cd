-- What the kept entries of a history say of its kept calls.
use Rattle.std.specs.Prelude.{◌≡◌, ℕ, List, [], ◌∷◌, ◌++◌, Bool, true, IsTrue, ⊤}
use Rattle.std.specs.List.{list_any}
use Rattle.ipc_history.specs.Entries.{closes, ends}
use Rattle.ipc_history.specs.Calls.{call_at, is_called}
use Rattle.ipc_history.specs.Threads.{now, is_live, space_of}
use Rattle.ipc_history.specs.Phases.{is_sent, receiver_of, sender_of, moved_bytes}
use Rattle.ipc_history.specs.Matching.{before_call, from_specifier}
use Rattle.ipc_history.specs.Timing.{receive_start}
use Rattle.ipc_history.specs.declared.entry.Entry.{Entry}
use Rattle.ipc_compact.specs.Compact.{is_among, kept_calls, kept_list, kept_of}

-- the same of the call n
pub record ReadsAs (K H : List Entry) (n : ℕ) : Type 0 where
  pub call : call_at K n ≡ call_at H n
  pub receiver : receiver_of K n ≡ receiver_of H n
  pub sender : sender_of K n ≡ sender_of H n
  pub sent : is_sent K n ≡ is_sent H n
  pub closed : list_any (closes n) K ≡ list_any (closes n) H
  pub ended : (m : ℕ) → list_any (ends n m) K ≡ list_any (ends n m) H
  pub got : (m : ℕ) → list_any (ends m n) K ≡ list_any (ends m n) H
  pub bytes : moved_bytes K n ≡ moved_bytes H n
  pub wanted : from_specifier K n ≡ from_specifier H n
  pub begun : now (before_call K n) ≡ now (before_call H n)
  pub started : receive_start K n ≡ receive_start H n

-- of each kept call, and the moment is the same
abbrev pub KeptReads : Type 0
KeptReads =
    (H : List Entry) (taken : List ℕ) → (now (kept_of H taken) ≡ now H)
    × ((n : ℕ) → IsTrue (is_among n (kept_calls H taken)) → IsTrue (is_called H n) → ReadsAs (kept_of H taken) H n)

-- the same threads live, in the same spaces
abbrev pub ThreadsRead : Type 0
ThreadsRead =
    (H : List Entry) (taken : List ℕ) (t : ℕ) → (is_live (kept_of H taken) t ≡ is_live H t)
    × (IsTrue (is_live H t) → space_of (kept_of H taken) t ≡ space_of H t)

-- of these entries no more are kept by the second test than by the first
abbrev pub Narrower : (Entry → Bool) → (Entry → Bool) → List Entry → Type 0
Narrower t u [] = ⊤
Narrower t u (e ∷ H) = (u e ≡ true → t e ≡ true) × Narrower t u H

-- compacting again: of what was kept and of what came since, the same is kept as of all
abbrev pub KeptAgain : Type 0
KeptAgain =
    (t u : Entry → Bool) (H X : List Entry) → Narrower t u H
    → kept_list u (kept_list t H ++ X) ≡ kept_list u (H ++ X)
