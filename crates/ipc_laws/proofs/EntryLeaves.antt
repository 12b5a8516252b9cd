-- What any entry leaves: threads that it doesn't end, spaces of threads that were there, and
-- partners that it doesn't end.
use Rattle.std.proofs.lemmas.Bool.{false≢true, or_cases, or_left, or_right, true_from_ne_false, true≢false}
use Rattle.std.proofs.lemmas.Option.{none-some}
use Rattle.std.proofs.Common.{◌≡◌, refl, sym, ap, ◌∙◌, ℕ, Bool, true, false, not, ◌||◌, ◌&&◌, ◌==◌, if◌then◌else◌, List, [], ◌∷◌, ◌++◌, Option, Some, None, is_some, unwrap_or, inl, inr, arith}
use Rattle.std.specs.List.{list_any}
use Rattle.std.specs.Option.{option_or}
use Rattle.ipc_history.specs.CallParts.{CallParts}
use Rattle.ipc_history.specs.Words.{first_some, before}
use Rattle.ipc_history.specs.Entries.{opens, space_in, breaks, calls, call_in}
use Rattle.ipc_history.specs.Calls.{call_at, is_called, caller_of, to_of, originator_of}
use Rattle.ipc_history.specs.Threads.{was_opened, has_broken, is_live, space_of}
use Rattle.ipc_history.specs.Phases.{is_sending, is_receiving}
use Rattle.ipc_history.specs.Matching.{before_call, is_propagated, shown_sender, from_specifier}
use Rattle.ipc_history.specs.NextOutput.{is_send_partner_gone, is_receive_partner_gone}
use Rattle.ipc_history.specs.Legal.{Legal}
use Rattle.ipc_history.specs.declared.entry.Entry.{Entry}
use Rattle.ipc_history.specs.declared.entry.Entry.TheVariants.{Given}
use Rattle.ipc_history.specs.declared.entry.Input.TheVariants.{Opened, Called}
use Rattle.ipc_laws.proofs.Changing.{changes}
use Rattle.ipc_laws.proofs.Endings.{live_opened}
use Rattle.ipc_laws.proofs.Growth.{caller_of_kept, to_of_kept}
use Rattle.ipc_laws.proofs.OpenCalls.{caller_opened}
use Rattle.ipc_laws.proofs.Places.{any_place, first_none}
use Rattle.ipc_laws.proofs.Tests.{both, left, refuted, right}
use Rattle.ipc_laws.proofs.WordLemmas.{first_some_push}

-- Threads that were opened: the callers and originators of calls. Their spaces stay

before_any : {X : Type 0} (p test : X → Bool) (xs : List X) → list_any p (before test xs) ≡ true → list_any p xs ≡ true
before_any p test [] h = h
before_any p test (x ∷ xs) h = go (test x) h (before_any p test xs)
  where
    go : (b : Bool) → list_any p (if b then [] else x ∷ before test xs) ≡ true → (list_any p (before test xs) ≡ true → list_any p xs ≡ true) → (p x || list_any p xs) ≡ true
    go true g later = absurd (false≢true g)
    go false g later = elim (or_cases (p x) (list_any p (before test xs)) g) [ inl a ↦ or_left _ _ a | inr b ↦ or_right _ _ (later b) ]

pub shown_opened : (P : List Entry) → Legal P → (n : ℕ) → is_called P n ≡ true → was_opened P (shown_sender P n) ≡ true
unfolding shown_sender is_propagated was_opened before_call
shown_opened P h n c = go (is_propagated P n) refl
  where
    go : (b : Bool) → is_propagated P n ≡ b → list_any (opens (if b then originator_of P n else caller_of P n)) P ≡ true
    go true e = before_any (opens (originator_of P n)) (calls n) P (live_opened (before_call P n) (originator_of P n) (right _ _ (left _ _ e)))
    go false e = caller_opened P h n c

space_there : (P : List Entry) (t : ℕ) → was_opened P t ≡ true → is_some (first_some (space_in t) P) ≡ true
unfolding was_opened
space_there P t h = true_from_ne_false _ (λ none. let p = any_place (opens t) P h in gives p.0 p.2 (first_none (space_in t) P p.0 p.1 (no_some _ none)))
  where
    no_some : {X : Type 0} (o : Option X) → is_some o ≡ false → o ≡ None
    no_some None f = refl
    no_some (Some y) f = absurd (true≢false f)

    gives : (e : Entry) → opens t e ≡ true → space_in t e ≡ None → ⊥
    gives (Given (Opened s space)) o none = none-some space (sym none ∙ rw o refl)
    gives _ o none = false≢true o

-- a call that was not there is entered
call_in_calls : (n : ℕ) (e : Entry) → is_some (call_in n e) ≡ true → calls n e ≡ true
call_in_calls n (Given (Called k thread call)) g = go (k == n) g
  where
    go : (b : Bool) → is_some {T = ℕ × CallParts} (if b then Some (thread, call) else None) ≡ true → b ≡ true
    go true g = refl
    go false g = absurd (false≢true g)
call_in_calls n _ g = absurd (false≢true g)

module _ (P : List Entry) (e : Entry) where
  module _ (t : ℕ) (lives : breaks t e ≡ false) where
    pub was_not_live : is_live (P ++ e ∷ []) t ≡ false → is_live P t ≡ false
    unfolding is_live
    was_not_live h = less (was_opened P t) (opens t e) (has_broken P t) (breaks t e) lives (rw ((changes P e).opened t, (changes P e).broken t) at h)
      where
        less : (o o' b b' : Bool) → b' ≡ false → ((o || o') && not (b || b')) ≡ false → (o && not b) ≡ false
        less o o' b b' p h = grind arith

    pub had_broken : has_broken (P ++ e ∷ []) t ≡ true → has_broken P t ≡ true
    had_broken h = before_it (has_broken P t) (breaks t e) lives (sym ((changes P e).broken t) ∙ h)
      where
        before_it : (b b' : Bool) → b' ≡ false → (b || b') ≡ true → b ≡ true
        before_it b b' p h = grind arith

  pub space_kept : (t : ℕ) → was_opened P t ≡ true → space_of (P ++ e ∷ []) t ≡ space_of P t
  unfolding space_of
  space_kept t o = ap (λ o. unwrap_or o 0) (first_some_push (space_in t) P e ∙ kept _ _ (space_there P t o))
    where
      kept : (a b : Option ℕ) → is_some a ≡ true → option_or a b ≡ a
      kept None b h = absurd (false≢true h)
      kept (Some x) b h = refl

  pub is_new : (n : ℕ) → is_called P n ≡ false → is_called (P ++ e ∷ []) n ≡ true → calls n e ≡ true
  unfolding is_called
  is_new n absent there = call_in_calls n e (second (call_at P n) _ absent (rw ((changes P e).call n) at there))
    where
      second : {X : Type 0} (a b : Option X) → is_some a ≡ false → is_some (option_or a b) ≡ true → is_some b ≡ true
      second None b p q = q
      second (Some x) b p q = absurd (true≢false p)

  -- a partner that is gone and doesn't end was gone
  pub receiver_is_gone : (n : ℕ) → is_called P n ≡ true → breaks (to_of P n) e ≡ false → is_sending P n ≡ true → is_send_partner_gone (P ++ e ∷ []) n ≡ true → is_send_partner_gone P n ≡ true
  unfolding is_send_partner_gone
  receiver_is_gone n c lives sends h =
      let same = rw (to_of_kept P (e ∷ []) n c, caller_of_kept P (e ∷ []) n c) at h in
      both _ _ sends (gone (is_live (P ++ e ∷ []) (to_of P n)) (is_live P (to_of P n)) _ (was_not_live (to_of P n) lives) (right _ _ same))
    where
      gone : (a b c : Bool) → (a ≡ false → b ≡ false) → (not a || c) ≡ true → (not b || c) ≡ true
      gone a b c p h = grind arith

  pub sender_is_gone : (n : ℕ) → from_specifier (P ++ e ∷ []) n ≡ from_specifier P n → breaks (from_specifier P n) e ≡ false → is_receiving P n ≡ true → is_receive_partner_gone (P ++ e ∷ []) n ≡ true → is_receive_partner_gone P n ≡ true
  unfolding is_receive_partner_gone
  sender_is_gone n wanted lives receives h =
      let same = rw wanted at h in
      gone (is_receiving (P ++ e ∷ []) n) (is_receiving P n) _ _ _ receives (was_not_live (from_specifier P n) lives (refuted _ (right _ _ same))) same
    where
      gone : (a b c d : Bool) (l : Bool) → b ≡ true → l ≡ false → (a && c && d && not (is_live (P ++ e ∷ []) (from_specifier P n))) ≡ true → (b && c && d && not l) ≡ true
      gone a b c d l p q h = grind arith
