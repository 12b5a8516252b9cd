-- What the kept entries say of the sender that a call shows, where its Called is kept, and the
-- threads that it names stay.
use Rattle.std.proofs.lemmas.Bool.{false≢true, true≢false}
use Rattle.std.proofs.Common.{◌≡◌, refl, sym, ap, ◌∙◌, ℕ, ◌==◌, Bool, true, false, ◌&&◌, ◌||◌, List, [], ◌∷◌, Option, None, unwrap_or, if◌then◌else◌, ◌⊎◌, inl, inr, arith}
use Rattle.std.specs.List.{list_any}
use Rattle.std.specs.Option.{option_or}
use Rattle.ipc_words.specs.MsgTag.{propagates}
use Rattle.ipc_history.specs.Words.{first_some, before}
use Rattle.ipc_history.specs.Entries.{opens, breaks, space_in, calls, call_in}
use Rattle.ipc_history.specs.Calls.{call_at, tag_of, originator_of, caller_of}
use Rattle.ipc_history.specs.Threads.{is_live, was_opened, has_broken, space_of}
use Rattle.ipc_history.specs.Matching.{before_call, is_propagated, shown_sender}
use Rattle.ipc_history.specs.declared.entry.Entry.{Entry}
use Rattle.ipc_compact.specs.Compact.{keeps, is_kept, kept_list, kept_of}
use Rattle.ipc_compact.proofs.KeepLemmas.{IsKept, first_kept, kept_so}
use Rattle.ipc_compact.proofs.Reading.{silent_call}
use Rattle.ipc_compact.proofs.ThreadReading.{stays, by_test, opened_is, broken_is, spaced_is, never_opened}

lost : {X : Type 0} (test : Entry → Bool) (e : Entry) (rest : List Entry) → IsKept test e → keeps test e rest ≡ false → X
lost test e rest is gone = absurd (true≢false (sym (kept_so test e rest is) ∙ gone))

any_before : (test p q : Entry → Bool) → ((e : Entry) → p e ≡ true → IsKept test e) → ((e : Entry) → IsKept test e ⊎ (q e ≡ false)) → (H : List Entry) → list_any q (before p (kept_list test H)) ≡ list_any q (before p H)
any_before test p q hp hq [] = refl
any_before test p q hp hq (e ∷ H) = go (any_before test p q hp hq H) (p e) refl (keeps test e H) refl (hq e)
  where
    go : list_any q (before p (kept_list test H)) ≡ list_any q (before p H) → (b : Bool) → p e ≡ b → (k : Bool) → keeps test e H ≡ k → IsKept test e ⊎ (q e ≡ false) → list_any q (before p (if k then e ∷ kept_list test H else kept_list test H)) ≡ list_any q (if b then [] else e ∷ before p H)
    go again true passes true is h = rw passes refl
    go again true passes false is h = lost test e H (hp e passes) is
    go again false other true is h = rw other (ap (λ b. q e || b) again)
    go again false other false is (inl kept) = lost test e H kept is
    go again false other false is (inr none) = rw none again

first_before : {Y : Type 0} (test p : Entry → Bool) (f : Entry → Option Y) → ((e : Entry) → p e ≡ true → IsKept test e) → ((e : Entry) → IsKept test e ⊎ (f e ≡ None)) → (H : List Entry) → first_some f (before p (kept_list test H)) ≡ first_some f (before p H)
first_before test p f hp hf [] = refl
first_before test p f hp hf (e ∷ H) = go (first_before test p f hp hf H) (p e) refl (keeps test e H) refl (hf e)
  where
    go : first_some f (before p (kept_list test H)) ≡ first_some f (before p H) → (b : Bool) → p e ≡ b → (k : Bool) → keeps test e H ≡ k → IsKept test e ⊎ (f e ≡ None) → first_some f (before p (if k then e ∷ kept_list test H else kept_list test H)) ≡ first_some f (if b then [] else e ∷ before p H)
    go again true passes true is h = rw passes refl
    go again true passes false is h = lost test e H (hp e passes) is
    go again false other true is h = rw other (ap (option_or (f e)) again)
    go again false other false is (inl kept) = lost test e H kept is
    go again false other false is (inr none) = rw none again

none_before : (p q : Entry → Bool) (xs : List Entry) → list_any q xs ≡ false → list_any q (before p xs) ≡ false
none_before p q [] h = refl
none_before p q (x ∷ xs) h = go (none_before p q xs (right_no _ _ h)) (p x)
  where
    right_no : (a b : Bool) → (a || b) ≡ false → b ≡ false
    right_no a b h = grind arith

    left_no : (a b : Bool) → (a || b) ≡ false → a ≡ false
    left_no a b h = grind arith

    go : list_any q (before p xs) ≡ false → (b : Bool) → list_any q (if b then [] else x ∷ before p xs) ≡ false
    go again true = refl
    go again false = rw (left_no (q x) (list_any q xs) h) again

module _ (H : List Entry) (taken : List ℕ) (n : ℕ) (called : (e : Entry) → calls n e ≡ true → IsKept (is_kept H taken) e) where
  reads_call : (e : Entry) → IsKept (is_kept H taken) e ⊎ (call_in n e ≡ None)
  reads_call e = go (calls n e) refl
    where
      go : (b : Bool) → calls n e ≡ b → IsKept (is_kept H taken) e ⊎ (call_in n e ≡ None)
      go true is = inl (called e is)
      go false is = inr (silent_call n e is)

  pub call_same : call_at (kept_of H taken) n ≡ call_at H n
  unfolding call_at kept_of
  call_same = first_kept (is_kept H taken) (call_in n) reads_call H

  pub caller_same : caller_of (kept_of H taken) n ≡ caller_of H n
  unfolding caller_of
  caller_same = rw call_same refl

  tag_same : tag_of (kept_of H taken) n ≡ tag_of H n
  unfolding tag_of
  tag_same = rw call_same refl

  originator_same : originator_of (kept_of H taken) n ≡ originator_of H n
  unfolding originator_of
  originator_same = rw call_same refl

  live_before : (t : ℕ) → stays H taken t ≡ true → is_live (before_call (kept_of H taken) n) t ≡ is_live (before_call H n) t
  unfolding is_live was_opened has_broken before_call kept_of
  live_before t s = rw (
    any_before (is_kept H taken) (calls n) (opens t) called (by_test H taken t (opens t) (opened_is H taken t) s) H,
    any_before (is_kept H taken) (calls n) (breaks t) called (by_test H taken t (breaks t) (broken_is H taken t) s) H,
  ) refl

  space_before : (t : ℕ) → stays H taken t ≡ true → space_of (before_call (kept_of H taken) n) t ≡ space_of (before_call H n) t
  unfolding space_of before_call kept_of
  space_before t s = ap (λ o. unwrap_or o 0) (first_before (is_kept H taken) (calls n) (space_in t) called each H)
    where
      each : (e : Entry) → IsKept (is_kept H taken) e ⊎ (space_in t e ≡ None)
      each e = elim (by_test H taken t (opens t) (opened_is H taken t) s e) [ inl kept ↦ inl kept | inr none ↦ inr (spaced_is H taken t e none) ]

  dead_before : (t : ℕ) → stays H taken t ≡ false → is_live (before_call (kept_of H taken) n) t ≡ false
  unfolding is_live was_opened before_call
  dead_before t s = no_left _ _ (none_before (calls n) (opens t) (kept_of H taken) (opened_no (never_opened H taken t s)))
    where
      no_left : (a b : Bool) → a ≡ false → (a && b) ≡ false
      no_left a b h = grind arith

      opened_no : was_opened (kept_of H taken) t ≡ false → list_any (opens t) (kept_of H taken) ≡ false
      opened_no h = h

  module _ (shows : stays H taken (shown_sender H n) ≡ true) (from : stays H taken (caller_of H n) ≡ true) where
    propagated_shows : is_propagated H n ≡ true → stays H taken (originator_of H n) ≡ true
    unfolding shown_sender
    propagated_shows p = let it : (if is_propagated H n then originator_of H n else caller_of H n) ≡ originator_of H n = rw p refl in ap (stays H taken) (sym it) ∙ shows

    pub propagated_same : is_propagated (kept_of H taken) n ≡ is_propagated H n
    unfolding is_propagated
    propagated_same = go (stays H taken (originator_of H n)) refl (is_propagated H n) refl
      where
        no_middle : (a b c : Bool) → b ≡ false → (a && b && c) ≡ false
        no_middle a b c h = grind arith

        go : (b : Bool) → stays H taken (originator_of H n) ≡ b → (p : Bool) → is_propagated H n ≡ p → (propagates (tag_of (kept_of H taken) n) && is_live (before_call (kept_of H taken) n) (originator_of (kept_of H taken) n) && (space_of (before_call (kept_of H taken) n) (originator_of (kept_of H taken) n) == space_of (before_call (kept_of H taken) n) (caller_of (kept_of H taken) n))) ≡ (propagates (tag_of H n) && is_live (before_call H n) (originator_of H n) && (space_of (before_call H n) (originator_of H n) == space_of (before_call H n) (caller_of H n)))
        go true s p is = rw (tag_same, originator_same, caller_same, live_before (originator_of H n) s, space_before (originator_of H n) s, space_before (caller_of H n) from) refl
        go false s true is = absurd (false≢true (sym s ∙ propagated_shows is))
        go false s false is = rw originator_same (no_middle _ _ _ (dead_before (originator_of H n) s) ∙ sym is)

    pub shown_same : shown_sender (kept_of H taken) n ≡ shown_sender H n
    unfolding shown_sender
    shown_same = rw (propagated_same, originator_same, caller_same) refl
