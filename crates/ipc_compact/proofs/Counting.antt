-- The calls of a thread that are kept, and those that the base counts as dropped, are all that it
-- made.
use Rattle.std.proofs.Math.Nat.{add-sub_of_le}
use Rattle.std.proofs.lemmas.List.Sums.{sum_by-cons}
use Rattle.std.proofs.Common.{◌≡◌, refl, ℕ, ◌+◌, ◌-◌, ◌≤◌, Bool, true, false, List, [], ◌∷◌, sum_by, cond, if◌then◌else◌, arith}
use Rattle.std.specs.Option.{option_map_or}
use Rattle.ipc_words.specs.ThreadId.{number_of}
use Rattle.ipc_history.specs.Entries.{number_by}
use Rattle.ipc_history.specs.Threads.{is_live}
use Rattle.ipc_history.specs.Legal.{Legal}
use Rattle.ipc_history.specs.declared.entry.Entry.{Entry}
use Rattle.ipc_laws.proofs.OneLive.{live_is_last}
use Rattle.ipc_compact.specs.Compact.{dropped_of, is_kept, keeps, kept_list, kept_of, made_in}
use Rattle.ipc_compact.specs.Counted.{CallsCounted}

fewer : (f : Entry → ℕ) (test : Entry → Bool) (H : List Entry) → sum_by f (kept_list test H) ≤ sum_by f H
fewer f test [] = omega arith
fewer f test (e ∷ H) = go (fewer f test H) (keeps test e H)
  where
    go : sum_by f (kept_list test H) ≤ sum_by f H → (b : Bool) → sum_by f (if b then e ∷ kept_list test H else kept_list test H) ≤ sum_by f (e ∷ H)
    go again true = omega (arith, again, sum_by-cons f e (kept_list test H), sum_by-cons f e H)
    go again false = omega (arith, again, sum_by-cons f e H)

module _ (H : List Entry) (taken : List ℕ) (t : ℕ) where
  fewer_made : made_in (kept_of H taken) t ≤ made_in H t
  unfolding kept_of
  fewer_made = fewer (λ e. cond (option_map_or (λ n. true) (number_by t e) false) 1 0) (is_kept H taken) H

  dropped_is : Legal H → is_live H t ≡ true → dropped_of H (kept_of H taken) (number_of t) ≡ made_in H t - made_in (kept_of H taken) t
  unfolding dropped_of
  dropped_is legal l = rw (live_is_last H legal t l, l) refl

  pub counted : Legal H → is_live H t ≡ true → made_in (kept_of H taken) t + dropped_of H (kept_of H taken) (number_of t) ≡ made_in H t
  counted legal l = rw (dropped_is legal l) (add-sub_of_le fewer_made)

pub calls_counted : CallsCounted
calls_counted H taken legal t l = counted H taken t legal l
