-- The last call of a thread, and how many calls it made.
use Rattle.std.proofs.lemmas.Bool.{false≢true, false_from_ne_true}
use Rattle.std.proofs.lemmas.Option.{none-some, cond_some}
use Rattle.std.proofs.lemmas.List.Sums.{sum_by_push, sum_by-cons}
use Rattle.std.proofs.Common.{◌≡◌, refl, sym, ap, ◌∙◌, ℕ, suc, zero-le, ◌+◌, ◌≤◌, ◌<◌, add-zero, Bool, true, false, ◌==◌, eqb-true, eq-eqb, cond, List, [], ◌∷◌, ◌++◌, count_by, Option, Some, None, is_some, arith}
use Rattle.std.specs.Option.{option_or}
use Rattle.ipc_words.specs.Limits.{table_slots}
use Rattle.ipc_words.specs.ThreadId.{number_of}
use Rattle.ipc_history.specs.CallParts.{CallParts}
use Rattle.ipc_history.specs.Words.{last_some, first_some}
use Rattle.ipc_history.specs.Entries.{number_in, calls, call_in, opens}
use Rattle.ipc_history.specs.Calls.{numbers, calls_made, call_at, is_called, caller_of}
use Rattle.ipc_history.specs.Threads.{is_live, was_opened}
use Rattle.ipc_history.specs.Phases.{is_over, open_call}
use Rattle.ipc_history.specs.Legal.{Legal, Follows, is_admissible}
use Rattle.ipc_history.specs.declared.entry.Entry.{Entry}
use Rattle.ipc_history.specs.declared.entry.Entry.TheVariants.{Given, Written}
use Rattle.ipc_history.specs.declared.entry.Input.TheVariants.{At, Opened, Called, Exreg, Broke, Moved}
use Rattle.ipc_laws.proofs.Endings.{caller_here, live_opened}
use Rattle.ipc_laws.proofs.Growth.{caller_of_kept, open_is_called, was_open}
use Rattle.ipc_laws.proofs.Histories.{legal_induction}
use Rattle.ipc_laws.proofs.Numbering.{called_below, calls_called, entered, number_at}
use Rattle.ipc_laws.proofs.OneOpen.{caller_at, free_parts, none_open}
use Rattle.ipc_laws.proofs.Pairing.{legal_before}
use Rattle.ipc_laws.proofs.Places.{Place, any_at, any_place}
use Rattle.ipc_laws.proofs.Steps.{call_at_push}
use Rattle.ipc_laws.proofs.Tests.{not_both}
use Rattle.ipc_laws.proofs.WordLemmas.{first_some_push, last_some_push, option_or_none}
use Rattle.ipc_threads.proofs.ThreadSteps.{opened_within}
use Rattle.ipc_laws.proofs.Histories.{follows_at}
use Rattle.ipc_desks.specs.CallsOf.{calls_by, number_by, last_call, made_by}
use Rattle.ipc_desks.specs.Desks.{one_if}

-- One more entry

pub last_push : (P : List Entry) (e : Entry) (t : ℕ) → last_call (P ++ e ∷ []) t ≡ option_or (number_by t e) (last_call P t)
unfolding last_call
last_push P e t = last_some_push (number_by t) P e

pub made_push : (P : List Entry) (e : Entry) (t : ℕ) → made_by (P ++ e ∷ []) t ≡ made_by P t + one_if (calls_by t e)
unfolding made_by
made_push P e t = sum_by_push (λ e. cond (calls_by t e) 1 0) P e

no_number : (e : Entry) (t : ℕ) → number_in e ≡ None → number_by t e ≡ None
no_number (Given (Called n caller call)) t h = absurd (none-some n (sym h))
no_number _ t h = refl

no_call : (e : Entry) (t : ℕ) → number_in e ≡ None → calls_by t e ≡ false
no_call (Given (Called n caller call)) t h = absurd (none-some n (sym h))
no_call _ t h = refl

pub last_kept : (P : List Entry) (e : Entry) (t : ℕ) → number_in e ≡ None → last_call (P ++ e ∷ []) t ≡ last_call P t
last_kept P e t none = last_push P e t ∙ rw (no_number e t none) refl

pub made_kept : (P : List Entry) (e : Entry) (t : ℕ) → number_in e ≡ None → made_by (P ++ e ∷ []) t ≡ made_by P t
made_kept P e t none = made_push P e t ∙ rw (no_call e t none) (add-zero (made_by P t))

-- What it says that a call is a thread's last

pub last_place : {Y : Type 0} (f : Entry → Option Y) (P : List Entry) (y : Y) → last_some f P ≡ Some y → (e : Entry) × Place P e × (f e ≡ Some y)
last_place f [] y h = absurd (none-some y h)
last_place {Y} f (x ∷ P) y h = go (λ z k. last_place f P z k) (last_some f P) refl h
  where
    go : ((z : Y) → last_some f P ≡ Some z → (e : Entry) × Place P e × (f e ≡ Some z)) → (o : Option Y) → last_some f P ≡ o → option_or o (f x) ≡ Some y → (e : Entry) × Place (x ∷ P) e × (f e ≡ Some y)
    go again None e g = (x, record { front = []; rest = P; whole = refl }, g)
    go again (Some z) e g = let t = again y (e ∙ g) in (t.0, record { front = x ∷ t.1.front; rest = t.1.rest; whole = ap (λ l. x ∷ l) t.1.whole }, t.2)

new_there : (H : List Entry) → Legal H → (n t : ℕ) (call : CallParts) (at : Place H (Given (Called n t call))) → is_called at.front n ≡ false
new_there H legal n t call at = false_from_ne_true (is_called at.front n) (λ called.
    let below = called_below at.front (legal_before H legal (Given (Called n t call)) at) n called in
    let first = number_at H legal n t call at in
    absurd (omega (arith, below, first)))

pub last_is : (H : List Entry) → Legal H → (t n : ℕ) → last_call H t ≡ Some n → (caller_of H n ≡ t) × (is_called H n ≡ true)
unfolding last_call
last_is H legal t n last = let s = last_place (number_by t) H n last in go s.0 s.1 s.2
  where
    go : (e : Entry) → Place H e → number_by t e ≡ Some n → (caller_of H n ≡ t) × (is_called H n ≡ true)
    go (Given (Called k caller call)) at says =
        let both = cond_some (caller == t) k n says in
        let is_n : k ≡ n = both.1 in
        let is_t : caller ≡ t = eqb-true caller t both.0 in
        (ap (caller_of H) (sym is_n) ∙ (caller_here H k caller call at (new_there H legal k caller call at) ∙ is_t), rw (← is_n) (calls_called H k (any_at (calls k) H (Given (Called k caller call)) at (eq-eqb k k refl))))
    go _ at says = absurd (none-some n says)

-- An open call is the last one of its caller

abbrev OpenIsLast : List Entry → Type 0
OpenIsLast P = (n : ℕ) → is_over P n ≡ false → last_call P (caller_of P n) ≡ Some n

-- an entry that enters no call of the caller
still_last : (P : List Entry) (e : Entry) (n : ℕ) → is_called P n ≡ true → number_by (caller_of P n) e ≡ None → is_over (P ++ e ∷ []) n ≡ false → OpenIsLast P → last_call (P ++ e ∷ []) (caller_of (P ++ e ∷ []) n) ≡ Some n
still_last P e n called none opened h = ap (last_call (P ++ e ∷ [])) (caller_of_kept P (e ∷ []) n called) ∙ (last_push P e (caller_of P n) ∙ rw none (h n (was_open P (e ∷ []) n called opened)))

-- an entry that enters no call at all
plain_before : (P : List Entry) (e : Entry) → number_in e ≡ None → (n : ℕ) → is_called (P ++ e ∷ []) n ≡ true → is_called P n ≡ true
unfolding is_called
plain_before P e plain n called = ap is_some (sym (call_at_push P e plain n)) ∙ called

plain_last : (P : List Entry) (e : Entry) → number_in e ≡ None → OpenIsLast P → OpenIsLast (P ++ e ∷ [])
plain_last P e plain h n opened = still_last P e n (plain_before P e plain n (open_is_called (P ++ e ∷ []) n opened)) (no_number e (caller_of P n) plain) opened h

-- what a Called entered, where its number is new
pub new_call_at : (P : List Entry) (n t : ℕ) (call : CallParts) → is_called P n ≡ false → call_at (P ++ Given (Called n t call) ∷ []) n ≡ Some (t, call)
unfolding is_called call_at
new_call_at P n t call absent = first_some_push _ P (Given (Called n t call)) ∙ absent_first _ _ absent (rw (eq-eqb n n refl) refl)
  where
    absent_first : {X : Type 0} (a b : Option X) {x : X} → is_some a ≡ false → b ≡ Some x → option_or a b ≡ Some x
    absent_first None b absent e = e
    absent_first (Some y) b absent e = not_both refl absent

-- a call that is there after a Called of another one was there before
called_before : (P : List Entry) (k t n : ℕ) (call : CallParts) → (k == n) ≡ false → is_called (P ++ Given (Called k t call) ∷ []) n ≡ true → is_called P n ≡ true
unfolding is_called call_at
called_before P k t n call other called = ap is_some (sym (first_some_push (call_in n) P (Given (Called k t call)) ∙ (ap (option_or (first_some (call_in n) P)) (rw other refl) ∙ option_or_none _))) ∙ called

module _ (P : List Entry) (k t : ℕ) (call : CallParts) (legal : Legal P) (admissible : is_admissible P (Called k t call) ≡ true) where
  pub absent : is_called P k ≡ false
  absent = false_from_ne_true _ (λ called. let below = called_below P legal k called in omega (arith, (entered P k t call admissible).1))

  -- an open call was there before, of another thread
  old_last : (n : ℕ) → is_called P n ≡ true → is_over (P ++ Given (Called k t call) ∷ []) n ≡ false → OpenIsLast P → last_call (P ++ Given (Called k t call) ∷ []) (caller_of (P ++ Given (Called k t call) ∷ []) n) ≡ Some n
  old_last n called opened h = go (t == caller_of P n) refl
    where
      none_of_caller : open_call P t ≡ None
      none_of_caller = (free_parts P t (entered P k t call admissible).0).1

      go : (b : Bool) → (t == caller_of P n) ≡ b → last_call (P ++ Given (Called k t call) ∷ []) (caller_of (P ++ Given (Called k t call) ∷ []) n) ≡ Some n
      go false other = still_last P (Given (Called k t call)) n called (rw other refl) opened h
      go true same =
          let caller : t ≡ caller_of P n = eqb-true t (caller_of P n) same in
          not_both (none_open P n called (ap (open_call P) (sym caller) ∙ none_of_caller)) (was_open P (Given (Called k t call) ∷ []) n called opened)

  -- or it is the new one
  new_last : last_call (P ++ Given (Called k t call) ∷ []) (caller_of (P ++ Given (Called k t call) ∷ []) k) ≡ Some k
  new_last = ap (last_call (P ++ Given (Called k t call) ∷ [])) (caller_at (P ++ Given (Called k t call) ∷ []) k t call (new_call_at P k t call absent)) ∙ (last_push P (Given (Called k t call)) t ∙ rw (eq-eqb t t refl) refl)

  called_last : OpenIsLast P → OpenIsLast (P ++ Given (Called k t call) ∷ [])
  called_last h n opened = go (k == n) refl
    where
      go : (b : Bool) → (k == n) ≡ b → last_call (P ++ Given (Called k t call) ∷ []) (caller_of (P ++ Given (Called k t call) ∷ []) n) ≡ Some n
      go false other = old_last n (called_before P k t n call other (open_is_called (P ++ Given (Called k t call) ∷ []) n opened)) opened h
      go true same = let is_k : k ≡ n = eqb-true k n same in rw (sym is_k) new_last

last_step : (P : List Entry) (e : Entry) → Legal P → OpenIsLast P → Follows P e → OpenIsLast (P ++ e ∷ [])
unfolding Follows
last_step P (Given (Called k t call)) legal h follows = called_last P k t call legal follows.1 h
last_step P (Given (At moment)) legal h follows = plain_last P (Given (At moment)) refl h
last_step P (Given (Opened t space)) legal h follows = plain_last P (Given (Opened t space)) refl h
last_step P (Given (Exreg t target control)) legal h follows = plain_last P (Given (Exreg t target control)) refl h
last_step P (Given (Broke t)) legal h follows = plain_last P (Given (Broke t)) refl h
last_step P (Given (Moved n count)) legal h follows = plain_last P (Given (Moved n count)) refl h
last_step P (Written output) legal h follows = plain_last P (Written output) refl h

nothing_called : (n : ℕ) → is_called [] n ≡ false
unfolding is_called call_at
nothing_called n = refl

last_start : OpenIsLast []
last_start n opened = not_both (open_is_called [] n opened) (nothing_called n)

pub open_is_last : (H : List Entry) → Legal H → (n : ℕ) → is_over H n ≡ false → last_call H (caller_of H n) ≡ Some n
open_is_last H legal = legal_induction OpenIsLast last_start last_step H legal

-- The number of a live thread

pub live_below : (P : List Entry) → Legal P → (t : ℕ) → is_live P t ≡ true → number_of t < table_slots
unfolding was_opened
live_below P legal t live = let p = any_place (opens t) P (live_opened P t live) in go p.0 p.1 p.2
  where
    go : (e : Entry) → Place P e → opens t e ≡ true → number_of t < table_slots
    go (Given (Opened u space)) at h = let same : u ≡ t = eqb-true u t h in rw (← same) (opened_within at.front u space (follows_at P legal (Given (Opened u space)) at))
    go _ at h = absurd (false≢true h)

-- A thread makes no more calls than there are

at_most_one : (b : Bool) → cond b 1 0 ≤ 1
at_most_one true = omega arith
at_most_one false = omega arith

one_more : (P : List Entry) (n caller : ℕ) (call : CallParts) → calls_made (Given (Called n caller call) ∷ P) ≡ suc (calls_made P)
unfolding calls_made numbers
one_more P n caller call = refl

same_made : (e : Entry) (P : List Entry) → number_in e ≡ None → calls_made (e ∷ P) ≡ calls_made P
unfolding calls_made numbers
same_made e P none = rw none refl

pub made_within : (P : List Entry) (t : ℕ) → made_by P t ≤ calls_made P
unfolding made_by
made_within [] t = zero-le
made_within (e ∷ P) t = go e (made_within P t)
  where
    go : (e : Entry) → count_by (calls_by t) P ≤ calls_made P → count_by (calls_by t) (e ∷ P) ≤ calls_made (e ∷ P)
    go (Given (Called n caller call)) h = omega (arith, h, sum_by-cons (λ e. cond (calls_by t e) 1 0) (Given (Called n caller call)) P, at_most_one (caller == t), one_more P n caller call)
    go (Given (At moment)) h = rw (same_made (Given (At moment)) P refl) h
    go (Given (Opened u space)) h = rw (same_made (Given (Opened u space)) P refl) h
    go (Given (Exreg u target control)) h = rw (same_made (Given (Exreg u target control)) P refl) h
    go (Given (Broke u)) h = rw (same_made (Given (Broke u)) P refl) h
    go (Given (Moved n count)) h = rw (same_made (Given (Moved n count)) P refl) h
    go (Written output) h = rw (same_made (Written output) P refl) h
