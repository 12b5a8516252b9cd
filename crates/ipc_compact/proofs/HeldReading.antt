-- What is held of a past says what the past says, as far as the next compaction asks.
use Rattle.std.proofs.lemmas.Bool.{false_from_ne_true}
use Rattle.std.proofs.lemmas.List.Folds.{list_any-append}
use Rattle.std.proofs.Common.{◌≡◌, refl, sym, ap, ◌∙◌, subst, ℕ, ◌==◌, eq-eqb, Bool, true, false, not, ◌&&◌, ◌||◌, List, [], ◌∷◌, ◌++◌, append-nil, Option, Some, None, is_some, unwrap_or, ◌⊎◌, inl, inr, arith}
use Rattle.std.specs.List.{list_any}
use Rattle.std.specs.Option.{option_or}
use Rattle.ipc_words.specs.MsgTag.{propagates}
use Rattle.ipc_history.specs.CallParts.{CallParts}
use Rattle.ipc_history.specs.Words.{before, first_some}
use Rattle.ipc_history.specs.Entries.{breaks, call_in, calls, names, opens, space_in}
use Rattle.ipc_history.specs.Calls.{call_at, is_called, caller_of, originator_of, tag_of}
use Rattle.ipc_history.specs.Threads.{has_broken, is_live, space_of, was_opened}
use Rattle.ipc_history.specs.Matching.{before_call, is_propagated, shown_sender}
use Rattle.ipc_history.specs.Legal.{Legal}
use Rattle.ipc_history.specs.declared.entry.Entry.{Entry}
use Rattle.ipc_history.specs.declared.entry.Entry.TheVariants.{Given}
use Rattle.ipc_history.specs.declared.entry.Input.TheVariants.{Called}
use Rattle.ipc_laws.proofs.Befores.{shown_kept}
use Rattle.ipc_laws.proofs.Growth.{call_at_kept}
use Rattle.ipc_laws.proofs.Histories.{MadeAt, admitted_at, called_place, legal_front}
use Rattle.ipc_laws.proofs.Numbering.{called_below, calls_called, entered, number_at}
use Rattle.ipc_laws.proofs.OneOpen.{caller_at, free_parts}
use Rattle.ipc_laws.proofs.Pairing.{legal_before}
use Rattle.ipc_laws.proofs.Places.{Place}
use Rattle.ipc_laws.proofs.Tests.{not_both, right}
use Rattle.ipc_laws.proofs.WordLemmas.{first_some_append}
use Rattle.ipc_compact.specs.Compact.{further_calls, is_among, is_further, is_kept, is_kept_call, kept_calls, kept_list, kept_of, names_one}
use Rattle.ipc_compact.specs.Held.{CallsHeld, FurtherHeld, LiveHeld, SaysOf}
use Rattle.ipc_compact.proofs.CallReading as there
use Rattle.ipc_compact.proofs.KeepLemmas.{IsKept, any_kept_at, kept_was_there}
use Rattle.ipc_compact.proofs.KeptTold.{among_called, either_of, filter_source}
use Rattle.ipc_threads.proofs.ThreadSteps.{broken_opened, no_space}
use Rattle.ipc_compact.proofs.NewThread.{opened_before}
use Rattle.ipc_compact.proofs.NotNeeded as needed
use Rattle.ipc_compact.proofs.Reading as reading
use Rattle.ipc_compact.proofs.SameCompact.{called_any}
use Rattle.ipc_compact.proofs.ShownReading as shown
use Rattle.ipc_compact.proofs.ThreadReading as threads

-- Threads

module _ (P F : List Entry) (taken : List ℕ) (legal : Legal (P ++ F)) (t : ℕ) where
  abbrev K : List Entry
  K = kept_of P taken

  -- of a list and what stands behind it
  opened_after : (L : List Entry) → was_opened (L ++ F) t ≡ (was_opened L t || was_opened F t)
  unfolding was_opened
  opened_after L = list_any-append (opens t) L F

  broken_after : (L : List Entry) → has_broken (L ++ F) t ≡ (has_broken L t || has_broken F t)
  unfolding has_broken
  broken_after L = list_any-append (breaks t) L F

  live_parts : (L : List Entry) → is_live (L ++ F) t ≡ ((was_opened L t || was_opened F t) && not (has_broken L t || has_broken F t))
  unfolding is_live
  live_parts L = rw (opened_after L, broken_after L) refl

  spaces_after : (L M : List Entry) → first_some (space_in t) L ≡ first_some (space_in t) M → space_of (L ++ F) t ≡ space_of (M ++ F) t
  unfolding space_of
  spaces_after L M e = ap (λ o. unwrap_or o 0) (first_some_append (space_in t) L F ∙ (ap (λ o. option_or o (first_some (space_in t) F)) e ∙ sym (first_some_append (space_in t) M F)))

  never_spaced : (L : List Entry) → was_opened L t ≡ false → first_some (space_in t) L ≡ None
  unfolding was_opened
  never_spaced L h = no_space L t h

  -- it was never opened in either, or it was opened and has ended before
  gone : threads.stays P taken t ≡ false → (was_opened P t ≡ false) ⊎ (was_opened P t ≡ true) × (has_broken P t ≡ true)
  unfolding is_live
  gone s = go (was_opened P t) refl (has_broken P t) refl
    where
      go : (a : Bool) → was_opened P t ≡ a → (b : Bool) → has_broken P t ≡ b → (was_opened P t ≡ false) ⊎ (was_opened P t ≡ true) × (has_broken P t ≡ true)
      go false o b k = inl o
      go true o true k = inr (o, k)
      go true o false k = not_both (threads.lives_stays P taken t (rw (o, k) refl)) s

  unopened_unbroken : was_opened P t ≡ false → has_broken P t ≡ false
  unopened_unbroken o = false_from_ne_true _ (λ b. not_both (broken_opened P (legal_front P F legal) t b) o)

  same_flags : (a b c d e f : Bool) → a ≡ c → b ≡ d → ((a || e) && not (b || f)) ≡ ((c || e) && not (d || f))
  same_flags a b c d e f h k = rw (h, k) refl

  pub live_held : is_live (K ++ F) t ≡ is_live (P ++ F) t
  live_held = live_parts K ∙ (go (threads.stays P taken t) refl ∙ sym (live_parts P))
    where
      none : (a b c d e f : Bool) → a ≡ false → b ≡ false → c ≡ true → d ≡ true → e ≡ false → ((a || e) && not (b || f)) ≡ ((c || e) && not (d || f))
      none a b c d e f g h i j k = grind arith

      go : (b : Bool) → threads.stays P taken t ≡ b → ((was_opened K t || was_opened F t) && not (has_broken K t || has_broken F t)) ≡ ((was_opened P t || was_opened F t) && not (has_broken P t || has_broken F t))
      go true s = same_flags _ _ _ _ _ _ (threads.opened_read P taken t s) (threads.broken_read P taken t s)
      go false s = elim (gone s) [
        | inl o ↦ same_flags _ _ _ _ _ _ (threads.never_opened P taken t s ∙ sym o) (threads.never_broken P taken t s ∙ sym (unopened_unbroken o))
        | inr both ↦ none _ _ _ _ _ _ (threads.never_opened P taken t s) (threads.never_broken P taken t s) both.0 both.1 (opened_before P F legal t both.0)
      ]

  pub space_held : is_live (P ++ F) t ≡ true → space_of (K ++ F) t ≡ space_of (P ++ F) t
  space_held l = go (threads.stays P taken t) refl
    where
      ended : (a b c : Bool) → b ≡ true → (a && not (b || c)) ≡ false
      ended a b c h = grind arith

      go : (b : Bool) → threads.stays P taken t ≡ b → space_of (K ++ F) t ≡ space_of (P ++ F) t
      go true s = spaces_after K P (threads.spaces_read P taken t s)
      go false s = elim (gone s) [
        | inl o ↦ spaces_after K P (never_spaced K (threads.never_opened P taken t s) ∙ sym (never_spaced P o))
        | inr both ↦ not_both (sym (live_parts P) ∙ l) (ended _ _ _ both.1)
      ]

pub live_same : LiveHeld
live_same P X taken legal t = (live_held P X taken legal t, space_held P X taken legal t)

-- Calls

uncalled_none : (L : List Entry) (n : ℕ) → is_called L n ≡ false → first_some (call_in n) L ≡ None
unfolding is_called call_at
uncalled_none L n h = go (first_some (call_in n) L) refl
  where
    go : (o : Option (ℕ × CallParts)) → first_some (call_in n) L ≡ o → first_some (call_in n) L ≡ None
    go None e = e
    go (Some x) e = not_both (ap is_some e) h

module _ (P X : List Entry) (taken later : List ℕ) (legal : Legal (P ++ X)) (grown : (n : ℕ) → is_among n taken ≡ true → is_among n later ≡ true) where
  abbrev Kept : List Entry
  Kept = kept_of P taken

  abbrev H : List Entry
  H = P ++ X

  front_legal : Legal P
  front_legal = legal_front P X legal

  abbrev beside : ℕ → Entry → Bool
  beside n e = names n e && names_one (kept_calls H later) e

  beside_kept : (n : ℕ) (e : Entry) → Place P e → beside n e ≡ true → IsKept (is_kept P taken) e
  beside_kept n e at h =
      let one = needed.named_one (kept_calls H later) e (right (names n e) _ h) in
      let k = needed.kept_before P X taken later legal grown one.0 (needed.named_called P front_legal e at one.0 one.2) one.1 in
      (reading.no_at one.0 e one.2, reading.named P taken one.0 k e one.2)

  beside_same : (n : ℕ) → list_any (beside n) (Kept ++ X) ≡ list_any (beside n) (P ++ X)
  unfolding kept_of
  beside_same n =
      list_any-append (beside n) (kept_list (is_kept P taken) P) X
      ∙ (ap (λ b. b || list_any (beside n) X) (any_kept_at (is_kept P taken) (beside n) P (beside_kept n))
      ∙ sym (list_any-append (beside n) P X))

  pub further_held : (n : ℕ) → is_further (Kept ++ X) (kept_calls H later) n ≡ is_further H (kept_calls H later) n
  unfolding is_further
  further_held n = ap (λ b. not (is_among n (kept_calls H later)) && b) (beside_same n)

  -- a call that was there before
  module _ (n : ℕ) (c : is_called P n ≡ true) (is : there.IsThere P taken n) where
    call_kept : call_at Kept n ≡ call_at P n
    call_kept = shown.call_same P taken n (there.called_kept P taken n is)

    called_there : is_called Kept n ≡ true
    unfolding is_called
    called_there = ap is_some call_kept ∙ c

    old_says : SaysOf (Kept ++ X) H n
    old_says = record {
      call = call_at_kept Kept X n called_there ∙ (call_kept ∙ sym (call_at_kept P X n c));
      shown = shown_kept Kept X n called_there
          ∙ (shown.shown_same P taken n (there.called_kept P taken n is) (there.shown_stays P taken n is) (there.caller_stays P taken n is)
          ∙ sym (shown_kept P X n c));
    }

  -- a call that came since
  module _ (n : ℕ) (new : is_called P n ≡ false) (c : is_called H n ≡ true) where
    none_before : list_any (calls n) P ≡ false
    none_before = false_from_ne_true _ (λ some. not_both (calls_called P n some) new)

    none_kept : list_any (calls n) Kept ≡ false
    unfolding kept_of
    none_kept = kept_was_there (is_kept P taken) (calls n) P none_before

    no_call : (L : List Entry) → list_any (calls n) L ≡ false → first_some (call_in n) L ≡ None
    no_call L h = go (is_called L n) refl
      where
        go : (b : Bool) → is_called L n ≡ b → first_some (call_in n) L ≡ None
        go true is = not_both (called_any L n is) h
        go false is = uncalled_none L n is

    call_new : call_at (Kept ++ X) n ≡ call_at H n
    unfolding call_at
    call_new =
        first_some_append (call_in n) Kept X
        ∙ (ap (λ o. option_or o (first_some (call_in n) X)) (no_call Kept none_kept ∙ sym (no_call P none_before))
        ∙ sym (first_some_append (call_in n) P X))

    abbrev F : List Entry
    F = before (calls n) X

    made : MadeAt H n
    made = called_place H n c

    none_front : list_any (calls n) made.at.front ≡ false
    none_front = false_from_ne_true _ (λ some.
        let number = number_at H legal n made.thread made.call made.at in
        let low = called_below made.at.front (legal_before H legal _ made.at) n (calls_called made.at.front n some) in
        omega (arith, number, low))

    front_is : made.at.front ≡ P ++ F
    front_is =
        sym (append-nil made.at.front)
        ∙ (ap (λ l. made.at.front ++ l) (sym first_out)
        ∙ (sym (needed.before_behind (calls n) made.at.front (Given (Called n made.thread made.call) ∷ made.at.rest) none_front)
        ∙ (ap (before (calls n)) (sym made.at.whole) ∙ needed.before_behind (calls n) P X none_before)))
      where
        first_out : before (calls n) (Given (Called n made.thread made.call) ∷ made.at.rest) ≡ []
        first_out = rw (eq-eqb n n refl) refl

    legal_then : Legal (P ++ F)
    legal_then = subst Legal front_is (legal_before H legal _ made.at)

    caller_lived : is_live (P ++ F) (caller_of H n) ≡ true
    caller_lived =
        rw (caller_at H n made.thread made.call made.is)
        (subst (λ L. is_live L made.thread ≡ true) front_is (free_parts made.at.front made.thread (entered made.at.front n made.thread made.call (admitted_at H legal (Called n made.thread made.call) made.at)).0).0)

    tag_new : tag_of (Kept ++ X) n ≡ tag_of H n
    unfolding tag_of
    tag_new = rw call_new refl

    originator_new : originator_of (Kept ++ X) n ≡ originator_of H n
    unfolding originator_of
    originator_new = rw call_new refl

    caller_new : caller_of (Kept ++ X) n ≡ caller_of H n
    unfolding caller_of
    caller_new = rw call_new refl

    before_held : before_call (Kept ++ X) n ≡ Kept ++ F
    unfolding before_call
    before_held = needed.before_behind (calls n) Kept X none_kept

    before_whole : before_call H n ≡ P ++ F
    unfolding before_call
    before_whole = needed.before_behind (calls n) P X none_before

    permitted : (p : Bool) (o : ℕ) → (p && is_live (Kept ++ F) o && (space_of (Kept ++ F) o == space_of (Kept ++ F) (caller_of H n))) ≡ (p && is_live (P ++ F) o && (space_of (P ++ F) o == space_of (P ++ F) (caller_of H n)))
    permitted p o = go (is_live (P ++ F) o) refl
      where
        none : (a b c : Bool) → (a && false && b) ≡ (a && false && c)
        none a b c = grind arith

        go : (l : Bool) → is_live (P ++ F) o ≡ l → (p && is_live (Kept ++ F) o && (space_of (Kept ++ F) o == space_of (Kept ++ F) (caller_of H n))) ≡ (p && is_live (P ++ F) o && (space_of (P ++ F) o == space_of (P ++ F) (caller_of H n)))
        go true l = rw (live_held P F taken legal_then o, space_held P F taken legal_then o l, space_held P F taken legal_then (caller_of H n) caller_lived) refl
        go false l = rw (live_held P F taken legal_then o, l) (none p _ _)

    propagated_new : is_propagated (Kept ++ X) n ≡ is_propagated H n
    unfolding is_propagated
    propagated_new = rw (tag_new, originator_new, caller_new, before_held, before_whole) (permitted (propagates (tag_of H n)) (originator_of H n))

    shown_new : shown_sender (Kept ++ X) n ≡ shown_sender H n
    unfolding shown_sender
    shown_new = rw (propagated_new, originator_new, caller_new) refl

    new_says : SaysOf (Kept ++ X) H n
    new_says = record { call = call_new; shown = shown_new }

  kept_made : (n : ℕ) → is_among n (kept_calls H later) ≡ true → is_called H n ≡ true
  unfolding kept_calls
  kept_made n h = among_called H n (filter_source n (is_kept_call H later) _ h)

  further_made : (n : ℕ) → is_among n (further_calls H later) ≡ true → is_called H n ≡ true
  unfolding further_calls
  further_made n h = among_called H n (filter_source n (is_further H (kept_calls H later)) _ h)

  pub says : (n : ℕ) → is_called H n ≡ true → there.IsThere H later n → SaysOf (Kept ++ X) H n
  says n c is = go (is_called P n) refl
    where
      go : (b : Bool) → is_called P n ≡ b → SaysOf (Kept ++ X) H n
      go true old = old_says n old (needed.there_before P X taken later legal grown n old is)
      go false new = new_says n new c

  pub calls_held : (n : ℕ) → (is_among n (kept_calls H later) || is_among n (further_calls H later)) ≡ true → SaysOf (Kept ++ X) H n
  calls_held n h = elim (either_of (is_among n (kept_calls H later)) (is_among n (further_calls H later)) h) [
    | inl k ↦ says n (kept_made n k) (inl k)
    | inr f ↦ says n (further_made n f) (inr f)
  ]

pub further_same : FurtherHeld
further_same P X taken later legal grown n = further_held P X taken later legal grown n

pub calls_same : CallsHeld
calls_same P X taken later legal grown n h = calls_held P X taken later legal grown n h
