-- What is kept says of the open calls what a checker keeps of them: enough to go on from what is
-- kept.
use Rattle.std.specs.Prelude.{◌≡◌, ℕ, List, IsFalse, IsTrue}
use Rattle.ipc_history.specs.Legal.{Legal}
use Rattle.ipc_history.specs.Phases.{is_over}
use Rattle.ipc_history.specs.declared.entry.Entry.{Entry}
use Rattle.ipc_threads.specs.Standings.{standing_of}
use Rattle.ipc_compact.specs.Compact.{is_among, kept_calls, kept_of}

-- a kept call is over in what is kept exactly where it is over
abbrev pub OverKept : Type 0
OverKept =
    (H : List Entry) (taken : List ℕ) (n : ℕ) → IsTrue (is_among n (kept_calls H taken))
    → is_over (kept_of H taken) n ≡ is_over H n

-- and all that a program keeps of an open call is read of what is kept
abbrev pub StandingsKept : Type 0
StandingsKept =
    (H : List Entry) (taken : List ℕ) → Legal H → (n : ℕ) → IsFalse (is_over H n)
    → standing_of (kept_of H taken) n ≡ standing_of H n
