-- What one more entry makes of what is kept of an open call.
use Rattle.std.proofs.lemmas.Option.{none-some, same_Some}
use Rattle.std.proofs.Common.{◌≡◌, refl, sym, ap, ◌∙◌, ℕ, Bool, true, false, ◌||◌, ◌&&◌, ◌==◌, eqb-true, not, if◌then◌else◌, List, [], ◌∷◌, ◌++◌, Option, Some, None, option_map, option_and_then, is_some, arith}
use Rattle.ipc_words.specs.ThreadId.{nilthread}
use Rattle.ipc_history.specs.Entries.{sender_in, ends_send, number_in, breaks, closes}
use Rattle.ipc_history.specs.Calls.{numbers, call_at, is_called, caller_of, from_of, send_period_of, receive_period_of}
use Rattle.ipc_history.specs.Threads.{now}
use Rattle.ipc_history.specs.Phases.{is_over, moved_bytes, open_call}
use Rattle.ipc_history.specs.Legal.{Legal, Follows}
use Rattle.ipc_history.specs.declared.entry.Entry.{Entry}
use Rattle.ipc_laws.proofs.Befores.{shown_kept}
use Rattle.ipc_laws.proofs.CallOrder.{is_open_call}
use Rattle.ipc_laws.proofs.Changing.{changes}
use Rattle.ipc_laws.proofs.Growth.{call_at_kept, caller_of_kept, from_of_kept, open_is_called, size_kept, to_of_kept, was_open}
use Rattle.ipc_laws.proofs.Settling.{legal_push}
use Rattle.ipc_laws.proofs.Steps.{call_at_push}
use Rattle.ipc_laws.proofs.Tests.{left, right, refuted, not_both}
use Rattle.ipc_laws.proofs.Finds.{absent, find_passes}
use Rattle.ipc_threads.specs.Standings.{standing_of}
use Rattle.ipc_threads.specs.Steps.{standing_after, call_after, is_closed_by}
use Rattle.ipc_threads.proofs.PhaseSteps.{phase_after, since_after}

module _ (P : List Entry) (e : Entry) (legal : Legal P) (follows : Follows P e) where
  -- the caller of the sending call of a transfer that begins, and the bytes that it has copied
  abbrev pub IsSender : ℕ → ℕ → Type 0
  IsSender caller moved = (n k : ℕ) → sender_in n e ≡ Some k → (caller ≡ caller_of P k) × (moved ≡ moved_bytes P k)

  pub standing_step : (caller moved : ℕ) → IsSender caller moved → (n : ℕ) → is_over P n ≡ false → standing_of (P ++ e ∷ []) n ≡ standing_after e (now P) caller moved (standing_of P n)
  unfolding standing_of send_period_of receive_period_of
  standing_step caller moved from n o =
      let c = open_is_called P n o in
      rw (caller_of_kept P (e ∷ []) n c, to_of_kept P (e ∷ []) n c, from_of_kept P (e ∷ []) n c, (changes P e).wanted n c, shown_kept P (e ∷ []) n c, since_after P e legal follows n o, call_at_kept P (e ∷ []) n c, size_kept P (e ∷ []) n c, (changes P e).bytes n, phase_after P e legal follows n o caller moved (from n)) refl

-- The open call of a thread

pub own : (H : List Entry) (t n : ℕ) → open_call H t ≡ Some n → (is_over H n ≡ false) × (caller_of H n ≡ t)
unfolding open_call
own H t n e =
    let h = find_passes (λ n. (caller_of H n == t) && not (is_over H n)) n (numbers H) e in
    (refuted _ (right _ _ h), eqb-true _ _ (left _ _ h))

pub found : (H : List Entry) → Legal H → (t n : ℕ) → is_over H n ≡ false → caller_of H n ≡ t → open_call H t ≡ Some n
found H legal t n o c = ap (open_call H) (sym c) ∙ (is_open_call H legal n o).found

abbrev unless_over : List Entry → ℕ → Option ℕ
unless_over Q n = (if is_over Q n then None else Some n)

module _ (P : List Entry) (e : Entry) (legal : Legal P) (follows : Follows P e) (enters : number_in e ≡ None) where
  same_call : (n : ℕ) → call_at (P ++ e ∷ []) n ≡ call_at P n
  same_call n = call_at_push P e enters n

  same_caller : (n : ℕ) → caller_of (P ++ e ∷ []) n ≡ caller_of P n
  unfolding caller_of
  same_caller n = rw (same_call n) refl

  called_before : (n : ℕ) → is_called (P ++ e ∷ []) n ≡ true → is_called P n ≡ true
  unfolding is_called
  called_before n h = ap is_some (sym (same_call n)) ∙ h

  -- what is open was open
  before : (t m : ℕ) → open_call (P ++ e ∷ []) t ≡ Some m → open_call P t ≡ Some m
  before t m h =
      let mine = own (P ++ e ∷ []) t m h in
      found P legal t m (was_open P (e ∷ []) m (called_before m (open_is_called (P ++ e ∷ []) m mine.0)) mine.0) (sym (same_caller m) ∙ mine.1)

  pub open_call_step : (t : ℕ) → open_call (P ++ e ∷ []) t ≡ option_and_then (unless_over (P ++ e ∷ [])) (open_call P t)
  open_call_step t = go (open_call P t) refl
    where
      go : (o : Option ℕ) → open_call P t ≡ o → open_call (P ++ e ∷ []) t ≡ option_and_then (unless_over (P ++ e ∷ [])) o
      go None h = absent _ (λ m k. none-some m (sym h ∙ before t m k))
      go (Some n) h = of (is_over (P ++ e ∷ []) n) refl
        where
          of : (b : Bool) → is_over (P ++ e ∷ []) n ≡ b → open_call (P ++ e ∷ []) t ≡ (if b then None else Some n)
          of true o = absent _ (λ m k. let same : m ≡ n = same_Some m n (sym (before t m k) ∙ h) in not_both (rw (← same) at o) (own (P ++ e ∷ []) t m k).0)
          of false o = found (P ++ e ∷ []) (legal_push P e legal follows) t n o (same_caller n ∙ (own P t n h).1)

  -- what closes it
  closed : (t n : ℕ) → breaks t e ≡ false → open_call P t ≡ Some n → is_over (P ++ e ∷ []) n ≡ is_closed_by e (standing_of P n)
  unfolding standing_of
  closed t n lives h =
      let mine = own P t n h in
      let stays : breaks (caller_of P n) e ≡ false = rw mine.1 lives in
      (changes P e).over n (open_is_called P n mine.0) ∙ rw (mine.0, stays) (only (closes n e) ((from_of P n == nilthread) && ends_send n e))
    where
      only : (a b : Bool) → (false || a || false || b) ≡ (a || b)
      only a b = grind arith

  -- and so its standing, where the entry breaks no thread
  pub call_step : (caller moved : ℕ) → IsSender P e legal follows caller moved → (t : ℕ) → breaks t e ≡ false → option_map (standing_of (P ++ e ∷ [])) (open_call (P ++ e ∷ []) t) ≡ option_and_then (call_after e (now P) caller moved) (option_map (standing_of P) (open_call P t))
  call_step caller moved from t lives = ap (option_map (standing_of (P ++ e ∷ []))) (open_call_step t) ∙ go (open_call P t) refl
    where
      go : (o : Option ℕ) → open_call P t ≡ o → option_map (standing_of (P ++ e ∷ [])) (option_and_then (unless_over (P ++ e ∷ [])) o) ≡ option_and_then (call_after e (now P) caller moved) (option_map (standing_of P) o)
      go None h = refl
      go (Some n) h = rw (closed t n lives h) (of (is_closed_by e (standing_of P n)))
        where
          of : (b : Bool) → option_map (standing_of (P ++ e ∷ [])) (if b then None else Some n) ≡ (if b then None else Some (standing_after e (now P) caller moved (standing_of P n)))
          of true = refl
          of false = ap (λ s. Some s) (standing_step P e legal follows caller moved from n (own P t n h).0)
