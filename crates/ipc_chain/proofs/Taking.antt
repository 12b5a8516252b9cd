-- What is taken of a history where it is judged.
use Rattle.std.proofs.lemmas.Bool.{true≢false, cases_eq}
use Rattle.std.proofs.lemmas.List.Folds.{list_any-append}
use Rattle.std.proofs.lemmas.Option.{none-some, same_Some}
use Rattle.std.proofs.Common.{◌≡◌, refl, sym, ap, ◌∙◌, subst, ℕ, ◌+◌, ◌<◌, Bool, true, false, not, ◌||◌, ◌==◌, eq-eqb, eqb-true, if◌then◌else◌, option_and_then, List, [], ◌∷◌, ◌++◌, Some, None, ◌⊎◌, inl, inr, arith}
use Rattle.ipc_words.specs.ThreadId.{number_of}
use Rattle.ipc_history.specs.Calls.{caller_of, last_call}
use Rattle.ipc_history.specs.Legal.{Legal}
use Rattle.ipc_history.specs.Outcomes.{OutcomeParts, outcome_of}
use Rattle.ipc_history.specs.Phases.{is_over}
use Rattle.ipc_history.specs.Threads.{has_broken, is_live, was_opened}
use Rattle.ipc_history.specs.declared.entry.Entry.{Entry}
use Rattle.ipc_laws.proofs.Tests.{refuted, right}
use Rattle.ipc_threads.specs.Slots.{live_of}
use Rattle.ipc_threads.proofs.Holders.{live_of_at, live_of_is}
use Rattle.ipc_compact.specs.Compact.{is_among}
use Rattle.ipc_desks.specs.CallsOf.{outcome_to_take, untaken_outcome}
use Rattle.ipc_desks.proofs.LastCalls.{last_is}
use Rattle.ipc_core.proofs.BusyLaws.{still_among}
use Rattle.ipc_chain.specs.Judging.{TakesBelow, TakesLast}

one_more : (taken : List ℕ) (k n : ℕ) → is_among n (taken ++ k ∷ []) ≡ true → (is_among n taken ≡ true) ⊎ (k ≡ n)
one_more taken k n h = go (is_among n taken) refl
  where
    go : (b : Bool) → is_among n taken ≡ b → (is_among n taken ≡ true) ⊎ (k ≡ n)
    go true is = inl is
    go false is = inr (eqb-true k n (second (k == n) (rw (list_any-append (λ m. m == n) taken (k ∷ []), is) at h)))
      where
        second : (b : Bool) → (b || false) ≡ true → b ≡ true
        second b h = grind arith

this_one : (taken : List ℕ) (n : ℕ) → is_among n (taken ++ n ∷ []) ≡ true
this_one taken n = list_any-append (λ m. m == n) taken (n ∷ []) ∙ second (is_among n taken) (n == n) (eq-eqb n n refl)
  where
    second : (a b : Bool) → b ≡ true → (a || (b || false)) ≡ true
    second a b h = grind arith

module _ (H : List Entry) (t : ℕ) (old : List ℕ) where
  -- an outcome was taken
  pub takes_one : (o : OutcomeParts) (new : List ℕ) → last_call H t ≡ Some o.call → new ≡ old ++ o.call ∷ [] → TakesLast H t old new
  takes_one o new last is = record {
    more = λ n among. ap (is_among n) is ∙ still_among n old (o.call ∷ []) among;
    only = λ n among. elim (one_more old o.call n (ap (is_among n) (sym is) ∙ among)) [ inl was ↦ inl was | inr same ↦ inr (last ∙ ap (λ k. Some k) same) ];
    all = λ n at over. ap (is_among n) is ∙ subst (λ k. is_among n (old ++ k ∷ []) ≡ true) (same_Some _ _ (sym at ∙ last)) (this_one old n);
  }

  -- there was none to take
  pub takes_none : (new : List ℕ) → Legal H → is_live H t ≡ true → None ≡ outcome_to_take H old t → new ≡ old → TakesLast H t old new
  unfolding outcome_to_take outcome_of is_live
  takes_none new legal live none is = record {
    more = λ n among. ap (is_among n) is ∙ among;
    only = λ n among. inl (ap (is_among n) (sym is) ∙ among);
    all = λ n last over. ap (is_among n) is ∙ taken n last over;
  }
    where
      taken : (n : ℕ) → last_call H t ≡ Some n → is_over H n ≡ true → is_among n old ≡ true
      taken n last over = go (is_among n old) (has_broken H (caller_of H n)) refl unbroken (none ∙ ap (option_and_then (untaken_outcome H old)) last)
        where
          unbroken : has_broken H (caller_of H n) ≡ false
          unbroken = ap (has_broken H) (last_is H legal t n last).0 ∙ refuted (has_broken H t) (right (was_opened H t) (not (has_broken H t)) live)

          go : (a c : Bool) → is_among n old ≡ a → has_broken H (caller_of H n) ≡ false → None ≡ (if is_among n old then None else outcome_of H n) → is_among n old ≡ true
          go true c among broken e = among
          go false c among broken e = absurd (never (rw (among, over, broken) at e))
            where
              never : {x : OutcomeParts} → None ≡ Some x → ⊥
              never h = cc

module _ (H : List Entry) (callers : List ℕ) (place : ℕ) (before old : List ℕ) (was : TakesBelow H callers place before old) where
  -- the thread of a number is none that takes
  pub below_none : (new : List ℕ) → Legal H → new ≡ old → ((t : ℕ) → live_of H place ≡ Some t → is_among t callers ≡ true) → TakesBelow H callers (place + 1) before new
  below_none new legal is skipped = record {
    more = λ n among. ap (is_among n) is ∙ was.more n among;
    only = λ n among. was.only n (ap (is_among n) (sym is) ∙ among);
    all = λ t n live low apart last over. ap (is_among n) is ∙ elim (cases_eq (number_of t) place) [
      | inl same ↦ absurd (true≢false (sym (skipped t (subst (λ k. live_of H k ≡ Some t) same (live_of_at H legal t live))) ∙ apart))
      | inr other ↦ was.all t n live (omega (arith, low, other)) apart last over
    ];
  }

  -- or it takes
  pub below_one : (new : List ℕ) (thread : ℕ) → Legal H → Some thread ≡ live_of H place → is_among thread callers ≡ false → TakesLast H thread old new → TakesBelow H callers (place + 1) before new
  below_one new thread legal is apart takes = record {
    more = λ n among. takes.more n (was.more n among);
    only = λ n among. elim (takes.only n among) [
      | inl old ↦ was.only n old
      | inr last ↦ inr (
        ap (is_live H) (last_is H legal thread n last).0 ∙ (live_of_is H place thread (sym is)).live,
        ap (λ t. is_among t callers) (last_is H legal thread n last).0 ∙ apart,
      )
    ];
    all = λ t n live low apart last over. elim (cases_eq (number_of t) place) [
      | inl same ↦ takes.all n (subst (λ s. last_call H s ≡ Some n) (same_Some _ _ (sym (subst (λ k. live_of H k ≡ Some t) same (live_of_at H legal t live)) ∙ sym is)) last) over
      | inr other ↦ takes.more n (was.all t n live (omega (arith, low, other)) apart last over)
    ];
  }

pub below_start : (H : List Entry) (callers before old : List ℕ) → old ≡ before → TakesBelow H callers 0 before old
below_start H callers before old is = record {
  more = λ n among. ap (is_among n) is ∙ among;
  only = λ n among. inl (ap (is_among n) (sym is) ∙ among);
  all = λ t n live low apart last over. absurd (no_less (number_of t) low);
}
  where
    no_less : (k : ℕ) → k < 0 → ⊥
    no_less k h = omega (arith, h)

-- the live thread of a number takes, but for these threads
pub below_apart : (H : List Entry) (callers : List ℕ) (place : ℕ) (before old new : List ℕ) (thread : ℕ) → Legal H → Some thread ≡ live_of H place → (is_among thread callers ≡ true → new ≡ old) → (is_among thread callers ≡ false → TakesLast H thread old new) → TakesBelow H callers place before old → TakesBelow H callers (place + 1) before new
below_apart H callers place before old new thread legal is skipped takes was = go (is_among thread callers) refl
  where
    go : (b : Bool) → is_among thread callers ≡ b → TakesBelow H callers (place + 1) before new
    go true among = below_none H callers place before old was new legal (skipped among) (λ t live. subst (λ s. is_among s callers ≡ true) (same_Some _ _ (is ∙ live)) among)
    go false apart = below_one H callers place before old was new thread legal is apart (takes apart)

-- a number without a live thread
pub below_nobody : (H : List Entry) (callers : List ℕ) (place : ℕ) (before old : List ℕ) → Legal H → None ≡ live_of H place → TakesBelow H callers place before old → TakesBelow H callers (place + 1) before old
below_nobody H callers place before old legal nobody was = below_none H callers place before old was old legal refl (λ t live. absurd (none-some t (nobody ∙ live)))
