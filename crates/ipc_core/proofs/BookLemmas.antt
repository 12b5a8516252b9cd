-- What keeps the books of a kernel.
use Rattle.std.proofs.lemmas.Bool.{false≢true, or_cases}
use Rattle.std.proofs.lemmas.List.{length-append}
use Rattle.std.proofs.lemmas.List.Elements.{All-head, All-nil, All-push, All-tail, All-weaker}
use Rattle.std.proofs.lemmas.Map.Keys.{IsDistinct-push}
use Rattle.std.proofs.lemmas.Map.Steps.{length-le_from_distinct_below}
use Rattle.std.proofs.Common.{◌≡◌, refl, sym, ap, ap₂, ◌∙◌, subst, ℕ, ◌+◌, ◌<◌, ◌≤◌, Bool, true, false, ◌||◌, ◌==◌, eqb-true, List, [], ◌∷◌, ◌++◌, filter_map, length, Option, Some, None, IfSome, inl, inr, arith}
use Rattle.std.specs.Prelude.{All}
use Rattle.std.specs.List.{IsDistinct, cons_option, list_any}
use Rattle.ipc_history.specs.Calls.{calls_made, numbers}
use Rattle.ipc_history.specs.Entries.{number_in}
use Rattle.ipc_history.specs.Legal.{Legal}
use Rattle.ipc_history.specs.Outcomes.{OutcomeParts}
use Rattle.ipc_history.specs.declared.entry.Entry.{Entry}
use Rattle.ipc_history.specs.declared.entry.Input.{Input}
use Rattle.ipc_laws.proofs.Growth.{is_called_kept, over_kept}
use Rattle.ipc_laws.proofs.Numbering.{called_below}
use Rattle.ipc_waits.proofs.Numbers.{eqb_equivalence, eqb_sym}
use Rattle.ipc_core.specs.Books.{AreBooks, TookOthers}
use Rattle.ipc_core.specs.KernelParts.{KernelParts}
use Rattle.ipc_core.specs.Obeying.{rested}
use Rattle.ipc_core.specs.Outcomes.{IsTaken, is_among}
use Rattle.ipc_core.specs.Steps.{taken_after}
use Rattle.ipc_core.proofs.BusyLaws.{still_among}
use Rattle.ipc_core.proofs.NewCalls.{Grows}
use Rattle.ipc_core.proofs.OtherCalls.{IsIdleFor, others_grown, others_more, others_none}

pub none_twice : IsDistinct (λ (a b : ℕ). a == b) []
unfolding IsDistinct
none_twice = tt

-- the books of the empty history
pub books_none : (H : List Entry) (taken : List ℕ) (since : ℕ) → H ≡ [] → taken ≡ [] → since ≡ 0 → AreBooks H taken since
books_none H taken since empty none start = rw empty (record {
  taken_are = subst (All (IsTaken [])) (sym none) (All-nil (IsTaken []));
  once = subst (IsDistinct (λ a b. a == b)) (sym none) none_twice;
  begun = omega (arith, start);
  others = subst (TookOthers []) (sym none) others_none;
})

-- the books after a command, which begins where the history ended
pub books_grown : (H K : List Entry) (input : Input) → Grows H K input → (old new : List ℕ) → new ≡ old → (since begun : ℕ) → since ≡ length H → AreBooks H old begun → IsIdleFor H old input → AreBooks K new since
books_grown H K input grows old new same since begun start books idle = record {
  taken_are = subst (All (IsTaken K)) (sym same) (All-weaker (IsTaken H) (IsTaken K) stays old books.taken_are);
  once = subst (IsDistinct (λ a b. a == b)) (sym same) books.once;
  begun = omega (arith, start, ap length grows.whole, length-append H grows.more);
  others = others_grown H K input grows old new same books.others idle;
}
  where
    stays : (n : ℕ) → IsTaken H n → IsTaken K n
    stays n is = subst (λ l. IsTaken l n) (sym grows.whole) (record { called = is_called_kept H grows.more n is.called; over = over_kept H grows.more n is.called is.over })

-- where nothing was written
pub books_rest : (H : List Entry) (taken : List ℕ) (since begun : ℕ) → since ≡ length H → AreBooks H taken begun → AreBooks H taken since
books_rest H taken since begun start books = record { taken_are = books.taken_are; once = books.once; begun = omega (arith, start); others = books.others }

-- Taking

any_same : {X : Type 0} (p q : X → Bool) (xs : List X) → ((x : X) → p x ≡ q x) → list_any p xs ≡ list_any q xs
any_same p q [] h = refl
any_same p q (x ∷ xs) h = ap₂ (λ a b. a || b) (h x) (any_same p q xs h)

among_either : (n : ℕ) (xs : List ℕ) → is_among n xs ≡ list_any (λ k. n == k) xs
among_either n xs = any_same (λ k. k == n) (λ k. n == k) xs (λ k. eqb_sym k n)

among_all : (P : ℕ → Type 0) (xs : List ℕ) (n : ℕ) → All P xs → is_among n xs ≡ true → P n
among_all P [] n all among = absurd (false≢true among)
among_all P (x ∷ xs) n all among = elim (or_cases (x == n) (is_among n xs) among) [
  | inl same ↦ subst P (eqb-true x n same) (All-head P x xs all)
  | inr later ↦ among_all P xs n (All-tail P x xs all) later
]

-- one more that was not taken
pub taken_once : (xs : List ℕ) (n : ℕ) → IsDistinct (λ a b. a == b) xs → is_among n xs ≡ false → IsDistinct (λ a b. a == b) (xs ++ n ∷ [])
taken_once xs n once fresh = IsDistinct-push eqb_equivalence xs n once (sym (among_either n xs) ∙ fresh)

-- no more are taken than there are entries
made_few : (H : List Entry) → calls_made H ≤ length H
unfolding calls_made numbers
made_few [] = omega arith
made_few (e ∷ H) = go (number_in e) (made_few H)
  where
    go : (number : Option ℕ) → length (filter_map number_in H) ≤ length H → length (cons_option number (filter_map number_in H)) ≤ length (e ∷ H)
    go None few = omega (arith, few)
    go (Some n) few = omega (arith, few)

pub taken_few : (H : List Entry) (taken : List ℕ) (since : ℕ) → Legal H → AreBooks H taken since → length taken ≤ length H + 1
taken_few H taken since legal books =
    let below = length-le_from_distinct_below taken (calls_made H + 1) books.once each in
    omega (arith, below, made_few H)
  where
    each : (q : ℕ) → list_any (λ k. q == k) taken ≡ true → q < calls_made H + 1
    each q h = let low = called_below H legal q (among_all (IsTaken H) taken q books.taken_are (among_either q taken ∙ h)).called in omega (arith, low)

-- the books after an outcome was taken
pub books_taken : (H : List Entry) (old new : List ℕ) (since : ℕ) → AreBooks H old since → (n : ℕ) → IsTaken H n → is_among n old ≡ false → new ≡ old ++ n ∷ [] → AreBooks H new since
books_taken H old new since books n done fresh taken = record {
  taken_are = subst (All (IsTaken H)) (sym taken) (All-push (IsTaken H) old n books.taken_are done);
  once = subst (IsDistinct (λ a b. a == b)) (sym taken) (taken_once old n books.once fresh);
  begun = books.begun;
  others = others_more H old new books.others (λ k among. ap (is_among k) taken ∙ still_among k old (n ∷ []) among);
}

-- what is seen of a kernel after a command that wrote nothing
module _ (seen old : KernelParts) (taken : List ℕ) (since : ℕ) where
  pub seen_rested : seen ≡ old → taken ≡ seen.taken → since ≡ length seen.history → record seen { taken = taken; since = since } ≡ rested old
  seen_rested same taken_is since_is = ap₂ (λ t s. record seen { taken = t; since = s }) taken_is since_is ∙ ap rested same

pub seen_given : (seen between old : KernelParts) (taken after : List ℕ) (since : ℕ) → seen ≡ between → between ≡ record old { taken = after } → taken ≡ seen.taken → since ≡ length seen.history → record seen { taken = taken; since = since } ≡ record old { taken = after; since = length old.history }
seen_given seen between old taken after since same did taken_is since_is = seen_rested seen between taken since same taken_is since_is ∙ ap rested did

-- whether one was taken or none
pub books_took : (H : List Entry) (old new : List ℕ) (since : ℕ) (outcome : Option OutcomeParts) → AreBooks H old since → new ≡ taken_after outcome old → IfSome outcome (λ o. IsTaken H o.call) → IfSome outcome (λ o. is_among o.call old ≡ false) → AreBooks H new since
books_took H old new since None books same done fresh = subst (λ t. AreBooks H t since) (sym same) books
books_took H old new since (Some o) books same done fresh = books_taken H old new since books o.call done fresh same
