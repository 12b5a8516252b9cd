-- The numbers of a history, and the sending calls of meetings.
use Rattle.std.proofs.lemmas.Bool.{cases_order, false_from_ne_true, false≢true, or_cases}
use Rattle.std.proofs.lemmas.Option.{none-some}
use Rattle.std.proofs.Common.{◌≡◌, refl, sym, ap, ◌∙◌, subst, ℕ, zero, suc, ◌<◌, ◌≤◌, ◌==◌, eq-eqb, eqb-true, Bool, true, false, List, [], ◌∷◌, Option, Some, None, option_map, find, inl, inr, arith, if◌then◌else◌}
use Rattle.ipc_history.specs.Calls.{numbers, calls_made}
use Rattle.ipc_history.specs.Phases.{is_over, is_receiving}
use Rattle.ipc_history.specs.Matching.{matches, match_of}
use Rattle.ipc_history.specs.NextOutput.{meeting, meeting_of}
use Rattle.ipc_history.specs.Legal.{Legal}
use Rattle.ipc_history.specs.declared.entry.Entry.{Entry}
use Rattle.ipc_history.specs.declared.entry.Output.{Output}
use Rattle.ipc_laws.specs.Laws.{up_to}
use Rattle.ipc_laws.proofs.Gives.{Gives-at, Gives-find}
use Rattle.ipc_laws.proofs.Numbering.{numbered}
use Rattle.ipc_laws.proofs.PhaseParts.{meets_parts, receives_parts}
use Rattle.ipc_laws.proofs.OnePhase.{sends_apart}
use Rattle.ipc_laws.proofs.Places.{any_at}
use Rattle.ipc_laws.proofs.Steps.{number_of_open}
use Rattle.ipc_laws.proofs.Tests.{left, not_both, right}
use Rattle.ipc_waits.specs.Finding.{IsRising, is_among, source_of}
use Rattle.ipc_waits.proofs.Lists.{among_push, rising_push}

-- the numbers of a history rise
up_to_below : (m k : ℕ) → is_among (up_to m) k ≡ true → k ≤ m
up_to_below zero k among = absurd (false≢true among)
up_to_below (suc m) k among = elim (or_cases (is_among (up_to m) k) (suc m == k) (sym (among_push (up_to m) (suc m) k) ∙ among)) [ inl before ↦ (let b = up_to_below m k before in omega arith) | inr same ↦ (let s : suc m ≡ k = eqb-true (suc m) k same in omega arith) ]

up_to_rises : (m : ℕ) → IsRising (up_to m)
up_to_rises zero = tt
up_to_rises (suc m) = rising_push (up_to m) (suc m) (up_to_rises m) (λ k among. let b = up_to_below m k among in omega arith)

pub numbers_rise : (P : List Entry) → Legal P → IsRising (numbers P)
numbers_rise P l = subst IsRising (sym (numbered P l)) (up_to_rises (calls_made P))

pub open_among : (P : List Entry) (n : ℕ) → is_over P n ≡ false → is_among (numbers P) n ≡ true
open_among P n o = any_at (λ k. k == n) (numbers P) n (number_of_open P n o) (eq-eqb n n refl)

-- a number for which a test finds none before it is the first that passes
pub find_least : (test : ℕ → Bool) (xs : List ℕ) (n : ℕ) → is_among xs n ≡ true → test n ≡ true → (k : ℕ) × (find test xs ≡ Some k) × (test k ≡ true)
find_least test xs n among passes = go (find test xs) refl
  where
    absent : (ys : List ℕ) → is_among ys n ≡ true → find test ys ≡ None → ⊥
    absent [] there none = false≢true there
    absent (y ∷ ys) there none = of (test y) refl none (absent ys)
      where
        of : (b : Bool) → test y ≡ b → (if b then Some y else find test ys) ≡ None → (is_among ys n ≡ true → find test ys ≡ None → ⊥) → ⊥
        of true e none later = none-some y (sym none)
        of false e none later = elim (or_cases (y == n) (is_among ys n) there) [ inl same ↦ not_both passes (sym (ap test (eqb-true y n same)) ∙ e) | inr behind ↦ later behind none ]

    go : (o : Option ℕ) → find test xs ≡ o → (k : ℕ) × (find test xs ≡ Some k) × (test k ≡ true)
    go None e = absurd (absent xs among e)
    go (Some k) e = (k, e, Gives-at (find test xs) k (Gives-find test xs) e)

-- the first of a rising list is the least
pub find_below : (test : ℕ → Bool) (xs : List ℕ) (n k : ℕ) → IsRising xs → is_among xs n ≡ true → test n ≡ true → find test xs ≡ Some k → k ≤ n
find_below test [] n k rising among passes e = absurd (false≢true among)
find_below test (x ∷ xs) n k rising among passes e = go (test x) refl e (find_below test xs n k rising.1)
  where
    go : (b : Bool) → test x ≡ b → (if b then Some x else find test xs) ≡ Some k → (is_among xs n ≡ true → test n ≡ true → find test xs ≡ Some k → k ≤ n) → k ≤ n
    go true t e later = let s : x ≡ k = cc in elim (or_cases (x == n) (is_among xs n) among) [ inl same ↦ (let z : x ≡ n = eqb-true x n same in omega arith) | inr behind ↦ (let far = rising.0 n behind in omega arith) ]
    go false t e later = elim (or_cases (x == n) (is_among xs n) among) [ inl same ↦ not_both passes (sym (ap test (eqb-true x n same)) ∙ t) | inr behind ↦ later behind passes e ]

-- The sending calls of meetings

pub meeting_gives : (P : List Entry) (n m : ℕ) → matches P n m ≡ true → (y : Output) × (meeting_of P n ≡ Some y)
unfolding meeting_of match_of
meeting_gives P n m g =
    let found = find_least (matches P n) (numbers P) m (open_among P m (meets_parts P n m g).receives.opened) g in
    (meeting P n found.0, ap (option_map (meeting P n)) found.1)

pub receives_of : (P : List Entry) (n m : ℕ) → matches P n m ≡ true → is_receiving P m ≡ true
unfolding matches
receives_of P n m g = right _ _ (left _ _ (left _ _ (left _ _ g)))

module _ (P : List Entry) (l : Legal P) where
  pub sends_itself : (n m : ℕ) → matches P n m ≡ true → source_of P n ≡ Some n
  unfolding source_of
  sends_itself n m g = rw (false_from_ne_true (is_receiving P n) (λ r. sends_apart P l n (meets_parts P n m g).sends (receives_parts P n n r).turned)) refl

  pub least_source : (n m : ℕ) → matches P n m ≡ true → ((k : ℕ) → k < n → meeting_of P k ≡ None) → source_of P m ≡ Some n
  unfolding source_of
  least_source n m g none =
      let p = meets_parts P n m g in
      let found = find_least (λ k. matches P k m) (numbers P) n (open_among P n p.sends.opened) g in
      let below : found.0 ≤ n = find_below (λ k. matches P k m) (numbers P) n found.0 (numbers_rise P l) (open_among P n p.sends.opened) g found.1 in
      rw (receives_of P n m g, found.1) (elim (cases_order found.0 n) [
        | inl same ↦ ap (λ k. Some k) same
        | inr (inl less) ↦ (let y = meeting_gives P found.0 m found.2 in absurd (none-some y.0 (sym (none found.0 less) ∙ y.1)))
        | inr (inr more) ↦ absurd (omega arith)
      ])
