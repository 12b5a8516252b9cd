-- A legal history enters each call once, and an open call was entered.
use Rattle.std.proofs.lemmas.Bool.{false≢true, true≢false}
use Rattle.std.proofs.lemmas.List.{length-append}
use Rattle.std.proofs.lemmas.List.Elements.{filter_map-append}
use Rattle.std.proofs.Common.{◌≡◌, refl, sym, ap, ◌∙◌, subst, ℕ, zero, suc, ◌+◌, ◌<◌, ◌≤◌, Bool, true, false, ◌||◌, ◌&&◌, eqb-true, List, [], ◌∷◌, ◌++◌, append_assoc, length, slice_index_or, filter_map, Option, Some, None, is_some, arith}
use Rattle.std.specs.List.{list_any}
use Rattle.ipc_history.specs.CallParts.{CallParts}
use Rattle.ipc_history.specs.Calls.{call_at, calls_made, is_called, numbers, from_of, to_of}
use Rattle.ipc_history.specs.Entries.{call_in, calls, closes, number_in}
use Rattle.ipc_history.specs.Legal.{Follows, Legal, is_admissible}
use Rattle.ipc_history.specs.Phases.{is_over, is_sent}
use Rattle.ipc_history.specs.Threads.{has_broken}
use Rattle.ipc_history.specs.Calls.{caller_of}
use Rattle.ipc_history.specs.Words.{first_some}
use Rattle.ipc_history.specs.declared.entry.Entry.{Entry}
use Rattle.ipc_history.specs.declared.entry.Entry.TheVariants.{Given, Written}
use Rattle.ipc_history.specs.declared.entry.Input.TheVariants.{At, Opened, Called, Exreg, Broke, Moved}

left : (a b : Bool) → (a && b) ≡ true → a ≡ true
left a b h = grind arith

right : (a b : Bool) → (a && b) ≡ true → b ≡ true
right a b h = grind arith

pub silent_call : (number : ℕ) (e : Entry) → calls number e ≡ false → call_in number e ≡ None
silent_call number (Given (Called k t c)) h = rw h refl
silent_call number (Given (At moment)) h = refl
silent_call number (Given (Opened thread space)) h = refl
silent_call number (Given (Exreg thread target control)) h = refl
silent_call number (Given (Broke thread)) h = refl
silent_call number (Given (Moved k count)) h = refl
silent_call number (Written output) h = refl

-- an entry that enters a call gives it before all others
first_here : (number : ℕ) (e : Entry) (H : List Entry) → calls number e ≡ true → first_some (call_in number) (e ∷ H) ≡ call_in number e
first_here number (Given (Called k t c)) H h = rw h refl
first_here number (Given (At moment)) H h = absurd (false≢true h)
first_here number (Given (Opened thread space)) H h = absurd (false≢true h)
first_here number (Given (Exreg thread target control)) H h = absurd (false≢true h)
first_here number (Given (Broke thread)) H h = absurd (false≢true h)
first_here number (Given (Moved k count)) H h = absurd (false≢true h)
first_here number (Written output) H h = absurd (false≢true h)

made_push : (P : List Entry) (e : Entry) → calls_made (P ++ e ∷ []) ≡ calls_made P + length (filter_map number_in (e ∷ []))
unfolding calls_made numbers
made_push P e = ap length (filter_map-append number_in P (e ∷ [])) ∙ length-append (filter_map number_in P) (filter_map number_in (e ∷ []))

follows_at : (P : List Entry) (e : Entry) (H : List Entry) → Legal (P ++ e ∷ H) → Follows P e
unfolding Legal
follows_at P e H legal = legal P e H refl

on : (P : List Entry) (e : Entry) (H : List Entry) → Legal (P ++ e ∷ H) → Legal ((P ++ e ∷ []) ++ H)
on P e H legal = subst Legal (sym (append_assoc P (e ∷ []) H)) legal

-- an entry enters the call of the next number
entered : (P : List Entry) (e : Entry) (number : ℕ) → Follows P e → calls number e ≡ true → (number ≡ calls_made P + 1) × (calls_made (P ++ e ∷ []) ≡ calls_made P + 1)
unfolding Follows is_admissible
entered P (Given (Called k t c)) number follows h =
    let next : k ≡ calls_made P + 1 = eqb-true k (calls_made P + 1) (right _ _ (left _ _ follows.1)) in
    let same : k ≡ number = eqb-true k number h in
    (sym same ∙ next, made_push P (Given (Called k t c)))
entered P (Given (At moment)) number follows h = absurd (false≢true h)
entered P (Given (Opened thread space)) number follows h = absurd (false≢true h)
entered P (Given (Exreg thread target control)) number follows h = absurd (false≢true h)
entered P (Given (Broke thread)) number follows h = absurd (false≢true h)
entered P (Given (Moved k count)) number follows h = absurd (false≢true h)
entered P (Written output) number follows h = absurd (false≢true h)

-- no entry enters a call of a number that the past has reached
none_again : (P H : List Entry) → Legal (P ++ H) → (number : ℕ) → number ≤ calls_made P → (k : ℕ) → k < length H → (d : Entry) → calls number (slice_index_or H k d) ≡ false
none_again P [] legal number low k within d = absurd (omega arith)
none_again P (e ∷ H) legal number low zero within d = go (calls number e) refl
  where
    go : (b : Bool) → calls number e ≡ b → calls number e ≡ false
    go false is = is
    go true is = let next = (entered P e number (follows_at P e H legal) is).0 in absurd (omega (arith, next, low))
none_again P (e ∷ H) legal number low (suc k) within d =
    let more = made_push P e in
    none_again (P ++ e ∷ []) H (on P e H legal) number (omega (arith, low, more)) k (omega (arith, within)) d

once_from : (P H : List Entry) → Legal (P ++ H) → (number k : ℕ) → k < length H → (d : Entry) → calls number (slice_index_or H k d) ≡ true → first_some (call_in number) H ≡ call_in number (slice_index_or H k d)
once_from P [] legal number k within d is = absurd (omega arith)
once_from P (e ∷ H) legal number zero within d is = first_here number e H is
once_from P (e ∷ H) legal number (suc k) within d is = go (once_from (P ++ e ∷ []) H (on P e H legal) number k (omega (arith, within)) d is) (calls number e) refl
  where
    go : first_some (call_in number) H ≡ call_in number (slice_index_or H k d) → (b : Bool) → calls number e ≡ b → first_some (call_in number) (e ∷ H) ≡ call_in number (slice_index_or H k d)
    go later false none = rw (silent_call number e none) later
    go later true here =
        let at = entered P e number (follows_at P e H legal) here in
        let none = none_again (P ++ e ∷ []) H (on P e H legal) number (let same = at.0 in let made = at.1 in omega (arith, same, made)) k (omega (arith, within)) d in
        absurd (false≢true (sym none ∙ is))

-- an entry that enters a call is the one by which the history has it
pub entered_once : (H : List Entry) → Legal H → (number place : ℕ) → place < length H → (d : Entry) → calls number (slice_index_or H place d) ≡ true → call_at H number ≡ call_in number (slice_index_or H place d)
unfolding call_at
entered_once H legal number place within d is = once_from [] H legal number place within d is

-- a walk finds the entry of a call that is there
pub none_there : (number : ℕ) (held : List Entry) → is_called held number ≡ true → ((k : ℕ) → k < length held → (d : Entry) → calls number (slice_index_or held k d) ≡ false) → ⊥
unfolding is_called call_at
none_there number [] called none = false≢true called
none_there number (e ∷ held) called none =
    let here : call_in number e ≡ None = silent_call number e (none 0 (omega arith) e) in
    none_there number held (rw here at called) (λ k h d. none (suc k) (omega (arith, h)) d)

pub not_called : (number : ℕ) (held : List Entry) → ((k : ℕ) → k < length held → (d : Entry) → calls number (slice_index_or held k d) ≡ false) → is_called held number ≡ false
not_called number held none = go (is_called held number) refl
  where
    go : (b : Bool) → is_called held number ≡ b → is_called held number ≡ false
    go false is = is
    go true is = absurd (none_there number held is none)

nil_is_over : (a b s f t : Bool) → f ≡ true → t ≡ true → (a || b || (f && (s || t))) ≡ true
nil_is_over a b s f t p q = grind arith

-- an open call was entered
pub open_was_entered : (H : List Entry) (number : ℕ) → is_over H number ≡ false → is_called H number ≡ true
unfolding is_called is_over from_of to_of
open_was_entered H number h = go (call_at H number) refl
  where
    go : (o : Option (ℕ × CallParts)) → call_at H number ≡ o → is_some (call_at H number) ≡ true
    go None e = absurd (true≢false (sym (nil_is_over (list_any (closes number) H) (has_broken H (caller_of H number)) (is_sent H number) _ _ (rw e refl) (rw e refl)) ∙ h))
    go (Some c) e = rw e refl
