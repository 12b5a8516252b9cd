-- Whose call an entry ends.
use Rattle.std.proofs.lemmas.Bool.{false≢true, false_from_ne_true}
use Rattle.std.proofs.Common.{◌≡◌, refl, sym, ap, ◌∙◌, ℕ, Bool, true, false, ◌||◌, ◌&&◌, ◌==◌, not, List, [], ◌∷◌, ◌++◌, Option, Some, None, arith}
use Rattle.std.specs.Option.{option_map_or}
use Rattle.ipc_words.specs.ThreadId.{nilthread}
use Rattle.ipc_history.specs.Entries.{breaks, calls, closes, ends_send, number_in}
use Rattle.ipc_history.specs.Calls.{caller_of, from_of}
use Rattle.ipc_history.specs.Threads.{is_live}
use Rattle.ipc_history.specs.Phases.{is_over}
use Rattle.ipc_history.specs.Legal.{Legal, Follows}
use Rattle.ipc_history.specs.declared.entry.Entry.{Entry}
use Rattle.ipc_laws.proofs.Changing.{changes}
use Rattle.ipc_laws.proofs.Growth.{open_is_called}
use Rattle.ipc_laws.proofs.Tests.{left, not_both, refuted, right}
use Rattle.ipc_desks.specs.CallsOf.{last_call}
use Rattle.ipc_desks.specs.Finishes.{ends_call, finishes}
use Rattle.ipc_desks.proofs.LastCalls.{last_is, last_kept, open_is_last}

pub same_tests : (a b : Bool) → (a ≡ true → b ≡ true) → (b ≡ true → a ≡ true) → a ≡ b
same_tests true b f g = sym (f refl)
same_tests false true f g = g refl
same_tests false false f g = refl

-- a call of the thread was open, and is over now
pub record Ended (P : List Entry) (e : Entry) (t : ℕ) : Type 0 where
  pub number : ℕ
  pub caller : caller_of P number ≡ t
  pub opened : is_over P number ≡ false
  pub over : is_over (P ++ e ∷ []) number ≡ true
  pub live : is_live (P ++ e ∷ []) t ≡ true

module _ (P : List Entry) (e : Entry) (legal : Legal P) (follows : Follows P e) (enters : number_in e ≡ None) (uncalled : (n : ℕ) → calls n e ≡ false) where
  pub finished_ended : (t : ℕ) → finishes P e t ≡ true → Ended P e t
  unfolding finishes ends_call
  finished_ended t h = go (last_call P t) refl (ap (λ o. option_map_or (λ n. is_over (P ++ e ∷ []) n && (calls n e || not (is_over P n))) o false) (sym (last_kept P e t enters)) ∙ right _ _ h)
    where
      second : (a b : Bool) → a ≡ false → (a || b) ≡ true → b ≡ true
      second a b p q = grind arith

      go : (o : Option ℕ) → last_call P t ≡ o → option_map_or (λ n. is_over (P ++ e ∷ []) n && (calls n e || not (is_over P n))) o false ≡ true → Ended P e t
      go None l g = absurd (false≢true g)
      go (Some n) l g = record { number = n; caller = (last_is P legal t n l).0; opened = refuted _ (second _ _ (uncalled n) (right _ _ g)); over = left _ _ g; live = left _ _ h }

  pub ended_finished : (n : ℕ) → is_over P n ≡ false → is_over (P ++ e ∷ []) n ≡ true → is_live (P ++ e ∷ []) (caller_of P n) ≡ true → finishes P e (caller_of P n) ≡ true
  unfolding finishes ends_call
  ended_finished n o over live = rw (live, last_kept P e (caller_of P n) enters, open_is_last P legal n o, over, o) (last (calls n e))
    where
      last : (b : Bool) → (b || true) ≡ true
      last true = refl
      last false = refl

  -- an entry that closes no call and breaks no thread ends none
  pub none_finished : ((n : ℕ) → closes n e ≡ false) → ((n : ℕ) → ends_send n e ≡ false) → ((t : ℕ) → breaks t e ≡ false) → (t : ℕ) → finishes P e t ≡ false
  none_finished unclosed unended unbroken t = false_from_ne_true _ (λ h.
      let x = finished_ended t h in
      let same = (changes P e).over x.number (open_is_called P x.number x.opened) ∙ rw (x.opened, unclosed x.number, unbroken (caller_of P x.number), unended x.number) (none (from_of P x.number == nilthread)) in
      not_both x.over same)
    where
      none : (f : Bool) → (f && false) ≡ false
      none true = refl
      none false = refl
