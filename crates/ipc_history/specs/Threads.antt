-- The clock and the threads. Our choice (docs/PROFILE.md): a thread is a connection; it is live
-- from its open to its break.
use Rattle.std.specs.Prelude.{ℕ, List, Bool, ◌&&◌, not, Option, Some, unwrap_or, filter_map}
use Rattle.std.specs.List.{list_any}
use Rattle.std.specs.Option.{option_map_or}
use Rattle.ipc_words.specs.ThreadId.{version_of}
use Rattle.ipc_words.specs.Version.{next_version_of}
use Rattle.ipc_history.specs.Words.{first_some, last_some}
use Rattle.ipc_history.specs.Entries.{moment_in, opens, space_in, thread_in, breaks}
use Rattle.ipc_history.specs.declared.entry.Entry.{Entry}

-- the moment of a history, in microseconds: its last At, else 0
unfoldable pub now : List Entry → ℕ
now P = unwrap_or (last_some moment_in P) 0

-- the thread has ended: there is a Broke of it
unfoldable pub has_broken : List Entry → ℕ → Bool
has_broken P thread = list_any (breaks thread) P

-- there is an Opened of the thread
unfoldable pub was_opened : List Entry → ℕ → Bool
was_opened P thread = list_any (opens thread) P

-- a thread is live where it was opened and has not ended
unfoldable pub is_live : List Entry → ℕ → Bool
is_live P thread = was_opened P thread && not (has_broken P thread)

-- the space in which a thread was opened, 0 where it was not
unfoldable pub space_of : List Entry → ℕ → ℕ
space_of P thread = unwrap_or (first_some (space_in thread) P) 0

-- a number is taken where a thread of that number is live
unfoldable pub is_taken : List Entry → ℕ → Bool
is_taken P number = list_any (is_live P) (filter_map (thread_in number) P)

-- the next version of a number: 1, or what follows the version of its last Opened; none where the
-- number is worn out
unfoldable pub next_version : List Entry → ℕ → Option ℕ
next_version P number = option_map_or (λ thread. next_version_of (version_of thread)) (last_some (thread_in number) P) (Some 1)
