-- A caller's calls come one after the other: an open call is its caller's last one, and once an
-- entry names a call of a caller, none names an earlier one of it.
use Rattle.std.proofs.lemmas.Bool.{cases_order, false_from_ne_true, true_from_ne_false, false≢true}
use Rattle.std.proofs.Common.{◌≡◌, refl, sym, ap, ◌∙◌, ℕ, ◌+◌, ◌<◌, ◌≤◌, Bool, true, false, not, ◌&&◌, ◌==◌, eq-eqb, eqb-true, List, ◌∷◌, ◌++◌, Option, Some, None, find, inl, inr, arith}
use Rattle.std.specs.List.{list_any}
use Rattle.ipc_history.specs.Entries.{calls, names}
use Rattle.ipc_history.specs.Calls.{numbers, calls_made, is_called, caller_of}
use Rattle.ipc_history.specs.Phases.{is_over, open_call}
use Rattle.ipc_history.specs.Legal.{Legal}
use Rattle.ipc_history.specs.declared.entry.Entry.{Entry}
use Rattle.ipc_history.specs.declared.entry.Entry.TheVariants.{Given}
use Rattle.ipc_history.specs.declared.entry.Input.TheVariants.{Called}
use Rattle.ipc_laws.specs.Laws.{IsOpenCall}
use Rattle.ipc_laws.proofs.Endings.{caller_here}
use Rattle.ipc_laws.proofs.Gives.{Gives-at, Gives-find}
use Rattle.ipc_laws.proofs.Growth.{caller_of_kept, is_called_kept, open_is_called, over_kept}
use Rattle.ipc_laws.proofs.Histories.{admitted_at, called_place, follows_at, named_open}
use Rattle.ipc_laws.proofs.Numbering.{called_below, called_later, calls_called, entered}
use Rattle.ipc_laws.proofs.OneOpen.{earlier_is_over, free_parts, none_open, number_place, one_open}
use Rattle.ipc_laws.proofs.OpenCalls.{caller_lives}
use Rattle.ipc_laws.proofs.Pairing.{legal_before}
use Rattle.ipc_laws.proofs.Places.{Place, any_at, any_place, find_none, place_behind}
use Rattle.ipc_laws.proofs.Tests.{left, not_both, refuted, right}

-- An open call

module _ (H : List Entry) (h : Legal H) (n : ℕ) (o : is_over H n ≡ false) where
  last_call : (k : ℕ) → is_called H k ≡ true → caller_of H k ≡ caller_of H n → k ≤ n
  last_call k ck same = elim (cases_order k n) [
    | inl e ↦ omega arith
    | inr (inl l) ↦ omega arith
    | inr (inr more) ↦ not_both (earlier_is_over H h n k (open_is_called H n o) ck (sym same) more) o
  ]

  found_call : open_call H (caller_of H n) ≡ Some n
  unfolding open_call
  found_call = go (find mine (numbers H)) refl
    where
      mine : ℕ → Bool
      mine = λ k. (caller_of H k == caller_of H n) && not (is_over H k)

      go : (found : Option ℕ) → find mine (numbers H) ≡ found → find mine (numbers H) ≡ Some n
      go None e =
          let made = called_place H n (open_is_called H n o) in
          let fails = find_none mine (numbers H) n e (number_place H n made.thread made.call made.at) in
          not_both (rw (eq-eqb (caller_of H n) (caller_of H n) refl, o) refl) fails
      go (Some k) e =
          let is = Gives-at (find mine (numbers H)) k (Gives-find mine (numbers H)) e in
          let same : k ≡ n = one_open H h k n (refuted _ (right _ _ is)) o (eqb-true _ _ (left _ _ is)) in
          e ∙ ap (λ k. Some k) same

  pub is_open_call : IsOpenCall H n
  is_open_call = record { called = open_is_called H n o; live = caller_lives H h n o; found = found_call; last = last_call }

-- The order of the entries

-- what holds where a call is entered
record Entering (H : List Entry) (k : ℕ) (F : List Entry) : Type 0 where
  pub thread : ℕ
  pub none : open_call F thread ≡ None
  pub next : k ≡ calls_made F + 1
  pub by : caller_of H k ≡ thread

entering : (H : List Entry) → Legal H → (k : ℕ) (e : Entry) (at : Place H e) → calls k e ≡ true → Entering H k at.front
entering H h k (Given (Called j thread call)) at g =
    let same : j ≡ k = eqb-true j k g in
    let e = entered at.front j thread call (admitted_at H h (Called j thread call) at) in
    let absent : is_called at.front j ≡ false = false_from_ne_true _ (λ c. let below = called_below at.front (legal_before H h _ at) j c in omega (arith, e.1)) in
    record { thread = thread; none = (free_parts at.front thread e.0).1; next = sym same ∙ e.1; by = ap (caller_of H) (sym same) ∙ caller_here H j thread call at absent }
entering H h k _ at g = absurd (false≢true g)

module _ (H : List Entry) (h : Legal H) (n k : ℕ) (less : n < k) (same : caller_of H n ≡ caller_of H k) where
  -- where an entry names k, its caller's call n is over
  over_before : (e : Entry) (at : Place H e) → names k e ≡ true → is_called H n ≡ true → (is_called at.front n ≡ true) × (is_over at.front n ≡ true)
  over_before e at named cn = go (calls k e) refl
    where
      there : k ≤ calls_made at.front + 1 → is_called at.front n ≡ true
      there few = true_from_ne_false (is_called at.front n) (λ absent. let later = called_later at.front (e ∷ at.rest) (rw at.whole at h) n absent (rw at.whole at cn) in omega (arith, few))

      kept : (j : ℕ) → is_called at.front j ≡ true → caller_of at.front j ≡ caller_of H j
      kept j c = sym (caller_of_kept at.front (e ∷ at.rest) j c) ∙ ap (λ l. caller_of l j) (sym at.whole)

      go : (b : Bool) → calls k e ≡ b → (is_called at.front n ≡ true) × (is_over at.front n ≡ true)
      go true enters =
          let new = entering H h k e at enters in
          let few = new.next in
          let c = there (omega (arith, few)) in
          let mine : caller_of at.front n ≡ new.thread = kept n c ∙ (same ∙ new.by) in
          (c, none_open at.front n c (ap (open_call at.front) mine ∙ new.none))
      go false old =
          let o = named_open at.front e (follows_at H h e at) k named old in
          let ck = open_is_called at.front k o in
          let below = called_below at.front (legal_before H h e at) k ck in
          let c = there (omega (arith, below)) in
          (c, earlier_is_over at.front (legal_before H h e at) n k c ck (kept n c ∙ (same ∙ sym (kept k ck))) less)

-- what names n stands where n is not over, or enters it, so not behind where it is over
module _ (H : List Entry) (h : Legal H) (n : ℕ) (e f : Entry) (at : Place H e) (later : Place (e ∷ at.rest) f) (named : names n f ≡ true) where
  abbrev there : Place H f
  there = record { front = at.front ++ later.front; rest = later.rest; whole = at.whole ∙ (place_behind at.front (e ∷ at.rest) f later).whole }

  over_is_not_named : is_called at.front n ≡ true → is_over at.front n ≡ true → ⊥
  over_is_not_named c o = go (calls n f) refl
    where
      go : (b : Bool) → calls n f ≡ b → ⊥
      go true enters =
          let new = (entering H h n f there enters).next in
          let below = called_below there.front (legal_before H h f there) n (is_called_kept at.front later.front n c) in
          omega (arith, new, below)
      go false old = not_both (over_kept at.front later.front n c o) (named_open there.front f (follows_at H h f there) n named old)

  named_is_called : is_called H n ≡ true
  named_is_called = go (calls n f) refl
    where
      go : (b : Bool) → calls n f ≡ b → is_called H n ≡ true
      go true enters = calls_called H n (any_at (calls n) H f there enters)
      go false old = rw there.whole (is_called_kept there.front (f ∷ there.rest) n (open_is_called there.front n (named_open there.front f (follows_at H h f there) n named old)))

pub entries_in_order : (H : List Entry) → Legal H → (n k : ℕ) → n < k → caller_of H n ≡ caller_of H k → (P rest : List Entry) (e : Entry) → H ≡ P ++ e ∷ rest → names k e ≡ true → (is_over P n ≡ true) × (list_any (names n) (e ∷ rest) ≡ false)
entries_in_order H h n k less same P rest e whole named = go (is_called H n) refl
  where
    at : Place H e
    at = record { front = P; rest = rest; whole = whole }

    none : ((f : Entry) → Place (e ∷ rest) f → names n f ≡ true → ⊥) → list_any (names n) (e ∷ rest) ≡ false
    none never = false_from_ne_true _ (λ some. let t = any_place (names n) (e ∷ rest) some in never t.0 t.1 t.2)

    go : (b : Bool) → is_called H n ≡ b → (is_over P n ≡ true) × (list_any (names n) (e ∷ rest) ≡ false)
    go true c =
        let before = over_before H h n k less same e at named c in
        (before.1, none (λ f later named. over_is_not_named H h n e f at later named before.0 before.1))
    go false c =
        (true_from_ne_false (is_over P n) (λ o. not_both (rw whole (is_called_kept P (e ∷ rest) n (open_is_called P n o))) c), none (λ f later named. not_both (named_is_called H h n e f at later named) c))
