-- Whose call an entry ends.
use Rattle.std.specs.Prelude.{ℕ, List, [], ◌∷◌, ◌++◌, Bool, false, not, ◌&&◌, ◌||◌, ◌==◌}
use Rattle.std.specs.Option.{option_map_or}
use Rattle.ipc_history.specs.Entries.{calls}
use Rattle.ipc_history.specs.Threads.{is_live}
use Rattle.ipc_history.specs.Phases.{is_over}
use Rattle.ipc_history.specs.declared.entry.Entry.{Entry}
use Rattle.ipc_desks.specs.CallsOf.{last_call}
use Rattle.ipc_desks.specs.declared.finished.Finished.{Finished}

-- n is over after the entry, and is new or was open before
unfoldable pub ends_call : List Entry → Entry → ℕ → Bool
ends_call H e n = is_over (H ++ e ∷ []) n && (calls n e || not (is_over H n))

-- the thread lives after the entry, and the entry ends its last call
unfoldable pub finishes : List Entry → Entry → ℕ → Bool
finishes H e thread = is_live (H ++ e ∷ []) thread && option_map_or (ends_call H e) (last_call (H ++ e ∷ []) thread) false

-- a thread is one of those that are named
abbrev pub is_named : Finished → ℕ → Bool
is_named finished thread =
    option_map_or (λ t. t == thread) finished.first false || option_map_or (λ t. t == thread) finished.second false
