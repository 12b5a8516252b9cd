-- What a compaction keeps, told by the last calls of the live threads and those that met them.
use Rattle.std.specs.Prelude.{◌≡◌, ℕ, ◌*◌, ◌≤◌, zero, suc, List, [], ◌∷◌, ◌++◌, Bool, ◌&&◌, ◌||◌, Option, Some, None, option_and_then, if◌then◌else◌, IsTrue, ◌⊎◌}
use Rattle.std.specs.List.Sorted.{IsNonDecreasing}
use Rattle.std.specs.Option.{option_map_or}
use Rattle.ipc_words.specs.Limits.{table_slots}
use Rattle.ipc_history.specs.Calls.{caller_of, is_called, last_call}
use Rattle.ipc_history.specs.declared.entry.Entry.{Entry}
use Rattle.ipc_threads.specs.Slots.{live_of}
use Rattle.ipc_compact.specs.Compact.{is_among, is_of_thread, is_told_of, names_one}
use Rattle.ipc_compact.specs.Partners.{joined_of}
use Rattle.ipc_compact.specs.declared.partners.Joined.{Joined}
use Rattle.ipc_compact.specs.declared.partners.Partner.{Partner}

-- numbers of calls, and threads
pub record KeptParts : Type 0 where
  pub calls : List ℕ
  pub partners : List ℕ
  pub threads : List ℕ

abbrev pub nothing_kept : KeptParts
nothing_kept = record { calls = []; partners = []; threads = [] }

-- each list in order, so that a number is looked for by halves
pub record InOrder (kept : KeptParts) : Type 0 where
  pub calls : IsNonDecreasing kept.calls
  pub partners : IsNonDecreasing kept.partners
  pub threads : IsNonDecreasing kept.threads

-- an entry that is no At is kept: it names one of these calls, it tells of one of their partners,
-- or it opens or ends one of the threads
abbrev pub passes : KeptParts → Entry → Bool
passes kept e =
    names_one kept.calls e
    || (is_told_of e && names_one kept.partners e)
    || is_of_thread (λ t. is_among t kept.threads) e

-- the same entries are kept, in whatever order and however often a number stands there
abbrev pub PassesAs : KeptParts → KeptParts → Type 0
PassesAs kept other = (e : Entry) → passes kept e ≡ passes other e

-- the partners of a call, and the threads that it and they show or are of
abbrev pub partner_numbers : Option Partner → List ℕ
partner_numbers None = []
partner_numbers (Some partner) = partner.number ∷ []

abbrev pub partner_threads : Option Partner → List ℕ
partner_threads None = []
partner_threads (Some partner) = partner.caller ∷ partner.shown ∷ []

abbrev pub partners_in : Joined → List ℕ
partners_in joined = partner_numbers joined.receiver ++ partner_numbers joined.sender

abbrev pub threads_in : Joined → List ℕ
threads_in joined = joined.shown ∷ (partner_threads joined.receiver ++ partner_threads joined.sender)

-- the last call of a live thread, where its outcome was not taken
unfoldable pub kept_call : List Entry → List ℕ → ℕ → Option ℕ
kept_call H taken t = option_and_then (λ n. if is_among n taken then None else Some n) (last_call H t)

-- what is kept for a live thread, and for a number
abbrev pub calls_for : List Entry → Option ℕ → List ℕ
calls_for H None = []
calls_for H (Some n) = n ∷ []

abbrev pub partners_for : List Entry → Option ℕ → List ℕ
partners_for H None = []
partners_for H (Some n) = partners_in (joined_of H n)

abbrev pub threads_for : List Entry → Option ℕ → List ℕ
threads_for H None = []
threads_for H (Some n) = threads_in (joined_of H n)

abbrev pub calls_at : List Entry → List ℕ → ℕ → List ℕ
calls_at H taken k = option_map_or (λ t. calls_for H (kept_call H taken t)) (live_of H k) []

abbrev pub partners_at : List Entry → List ℕ → ℕ → List ℕ
partners_at H taken k = option_map_or (λ t. partners_for H (kept_call H taken t)) (live_of H k) []

abbrev pub threads_at : List Entry → List ℕ → ℕ → List ℕ
threads_at H taken k = option_map_or (λ t. t ∷ threads_for H (kept_call H taken t)) (live_of H k) []

-- all that is kept for so many first numbers
abbrev pub gathered : (ℕ → List ℕ) → ℕ → List ℕ
gathered f zero = []
gathered f (suc count) = gathered f count ++ f count

unfoldable pub kept_upto : List Entry → List ℕ → ℕ → KeptParts
kept_upto H taken count = record {
  calls = gathered (calls_at H taken) count;
  partners = gathered (partners_at H taken) count;
  threads = gathered (threads_at H taken) count;
}

-- of each thread every call but its last was taken
abbrev pub TookOthers : List Entry → List ℕ → Type 0
TookOthers H taken =
    (n : ℕ) → IsTrue (is_called H n) → (last_call H (caller_of H n) ≡ Some n) ⊎ IsTrue (is_among n taken)

-- the capacities are enough for what is kept
pub record HasRoom (few more most : ℕ) : Type 0 where
  pub calls : table_slots ≤ few
  pub partners : 2 * table_slots ≤ more
  pub threads : 6 * table_slots ≤ most
