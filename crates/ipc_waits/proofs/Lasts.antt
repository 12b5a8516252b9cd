-- What the last entry of a history says, and what it makes come.
use Rattle.std.proofs.lemmas.Option.{none-some, same_Some}
use Rattle.std.proofs.Common.{◌≡◌, refl, sym, ap, ◌∙◌, subst, ℕ, ◌==◌, ◌&&◌, ◌||◌, eq-eqb, if◌then◌else◌, Bool, true, false, List, [], ◌∷◌, ◌++◌, Option, Some, None, option_map, option_and_then, arith}
use Rattle.std.specs.Option.{option_or}
use Rattle.ipc_history.specs.Words.{last}
use Rattle.ipc_history.specs.Calls.{caller_of, to_of}
use Rattle.ipc_history.specs.Threads.{is_live, space_of}
use Rattle.ipc_history.specs.Phases.{is_over, open_call}
use Rattle.ipc_history.specs.Matching.{from_specifier, shown_sender}
use Rattle.ipc_history.specs.NextOutput.{stop, stop_after, turn_after}
use Rattle.ipc_history.specs.Legal.{Legal, Follows, is_admissible}
use Rattle.ipc_history.specs.declared.entry.Entry.{Entry}
use Rattle.ipc_history.specs.declared.entry.Entry.TheVariants.{Given, Written}
use Rattle.ipc_history.specs.declared.entry.Input.TheVariants.{Exreg}
use Rattle.ipc_history.specs.declared.entry.Output.TheVariants.{Began}
use Rattle.ipc_laws.proofs.Changing.{changes}
use Rattle.ipc_laws.proofs.Growth.{open_is_called}
use Rattle.ipc_laws.proofs.Histories.{follows_last, named_open}
use Rattle.ipc_laws.proofs.OneOpen.{free_parts}
use Rattle.ipc_laws.proofs.Tests.{left}
use Rattle.ipc_laws.proofs.ThreadChanges.{is_live_push}
use Rattle.ipc_laws.proofs.WordLemmas.{option_or_none}
use Rattle.ipc_threads.specs.Last.{IsLast, last_output}
use Rattle.ipc_threads.specs.declared.last.Last.{Last}
use Rattle.ipc_threads.specs.Slots.{Stands}
use Rattle.ipc_waits.specs.Rules.{turn_by, turn_of, turned_by}
use Rattle.ipc_threads.specs.Standings.{IsStanding, standing_of}
use Rattle.ipc_threads.specs.declared.slot.Standing.{Standing}
use Rattle.ipc_threads.specs.declared.kept.KeptSlots.{KeptSlots}
use Rattle.ipc_waits.proofs.Meets.{receiving_kept}
use Rattle.ipc_threads.proofs.Lookups.{none_up}
use Rattle.ipc_threads.proofs.StandingSteps.{own}

last_kept : {X : Type 0} (x y : X) (ys : List X) → last (x ∷ y ∷ ys) ≡ last (y ∷ ys)
last_kept x y ys = go (last ys)
  where
    go : (o : Option _) → option_or (option_or o (Some y)) (Some x) ≡ option_or o (Some y)
    go None = refl
    go (Some z) = refl

-- what stands before the last
pub front_of : (P : List Entry) (e : Entry) → last P ≡ Some e → (F : List Entry) × (P ≡ F ++ e ∷ [])
front_of [] e h = absurd (none-some e h)
front_of (x ∷ []) e h = ([], ap (λ y. y ∷ []) (same_Some x e h))
front_of (x ∷ y ∷ ys) e h = let f = front_of (y ∷ ys) e (sym (last_kept x y ys) ∙ h) in (x ∷ f.0, ap (λ l. x ∷ l) f.1)

first_named : (i j : ℕ) → ((i == i) || (j == i)) ≡ true
first_named i j = rw (eq-eqb i i refl) refl

-- the sending call of a Began is open
pub began_open : (P : List Entry) → Legal P → (n m : ℕ) → last P ≡ Some (Written (Began n m)) → is_over P n ≡ false
began_open P legal n m h =
    let f = front_of P (Written (Began n m)) h in
    rw f.1 (at f.0 (rw f.1 at legal))
  where
    at : (F : List Entry) → Legal (F ++ Written (Began n m) ∷ []) → is_over (F ++ Written (Began n m) ∷ []) n ≡ false
    at F l =
        let o = named_open F (Written (Began n m)) (follows_last F (Written (Began n m)) l) n (first_named n m) refl in
        (changes F (Written (Began n m))).over n (open_is_called F n o) ∙ rw o (none _)
      where
        none : (f : Bool) → (false || false || false || (f && false)) ≡ false
        none f = grind arith

free_at : (F : List Entry) (thread target control : ℕ) → Follows F (Given (Exreg thread target control)) → is_live F thread ≡ true
unfolding Follows is_admissible
free_at F thread target control follows = (free_parts F thread (left _ _ follows.1)).0

-- the thread of an ExchangeRegisters is live
pub exreg_live : (P : List Entry) → Legal P → (thread target control : ℕ) → last P ≡ Some (Given (Exreg thread target control)) → is_live P thread ≡ true
exreg_live P legal thread target control h =
    let f = front_of P (Given (Exreg thread target control)) h in
    rw f.1 (at f.0 (follows_last f.0 (Given (Exreg thread target control)) (rw f.1 at legal)))
  where
    at : (F : List Entry) → Follows F (Given (Exreg thread target control)) → is_live (F ++ Given (Exreg thread target control) ∷ []) thread ≡ true
    at F follows = is_live_push F (Given (Exreg thread target control)) thread refl refl ∙ free_at F thread target control follows

pub began_turn : (P : List Entry) (n m : ℕ) → turn_after P (Written (Began n m)) ≡ turn_of P n
unfolding turn_after
began_turn P n m = refl

standing_parts : (P : List Entry) (n : ℕ) → ((standing_of P n).to ≡ to_of P n) × ((standing_of P n).shown ≡ shown_sender P n) × ((standing_of P n).caller ≡ caller_of P n)
unfolding standing_of
standing_parts P n = (refl, refl, refl)

waiting_parts : (P : List Entry) (n : ℕ) → ((standing_of P n).number ≡ n) × ((standing_of P n).awaited ≡ from_specifier P n)
unfolding standing_of
waiting_parts P n = (refl, refl)

-- the turn that the program finds
pub turn_law : (P : List Entry) → Legal P → (s : Standing) → IsStanding P s → (if s.shown == s.caller then None else option_and_then (turn_by s.caller s.to) (option_map (standing_of P) (open_call P s.shown))) ≡ turn_of P s.number
turn_law P legal s call = rw (to, shown, caller) (ap (λ o. if shown_sender P s.number == caller_of P s.number then None else o) (go (open_call P (shown_sender P s.number)) refl))
  where
    to : s.to ≡ to_of P s.number
    to = ap (λ s. s.to) call.is ∙ (standing_parts P s.number).0

    shown : s.shown ≡ shown_sender P s.number
    shown = ap (λ s. s.shown) call.is ∙ (standing_parts P s.number).1

    caller : s.caller ≡ caller_of P s.number
    caller = ap (λ s. s.caller) call.is ∙ (standing_parts P s.number).2

    go : (o : Option ℕ) → open_call P (shown_sender P s.number) ≡ o → option_and_then (turn_by (caller_of P s.number) (to_of P s.number)) (option_map (standing_of P) o) ≡ option_and_then (turned_by P s.number) o
    go None e = refl
    go (Some r) e = let parts = waiting_parts P r in rw (receiving_kept P legal r (own P _ r e).0, parts.0, parts.1) refl

-- what a stop, looked up, comes to
pub stop_absent : (P : List Entry) (t control : ℕ) → None ≡ option_map (standing_of P) (open_call P t) → None ≡ option_and_then (stop P control) (open_call P t)
stop_absent P t control e = rw (none_up P (open_call P t) e) refl

-- and at the last entry
pub stop_last : (P : List Entry) (thread target control : ℕ) → (if is_live P target && (space_of P target == space_of P thread) then option_and_then (stop P control) (open_call P target) else None) ≡ stop_after P (Given (Exreg thread target control))
unfolding stop_after
stop_last P thread target control = refl

-- what comes of the last entry, by what the slots keep of it
pub last_at : (P : List Entry) (slots : KeptSlots) → Stands P slots → (l : Last) → slots.last ≡ l → IsLast P l
last_at P slots stands l is = subst (IsLast P) is stands.last

pub exreg_told : (P : List Entry) (thread target control : ℕ) → last P ≡ Some (Given (Exreg thread target control))
    → last_output P ≡ stop_after P (Given (Exreg thread target control))
unfolding turn_after
exreg_told P thread target control h = rw h (option_or_none (stop_after P (Given (Exreg thread target control))))

pub began_told : (P : List Entry) (n m : ℕ) → last P ≡ Some (Written (Began n m)) → last_output P ≡ turn_after P (Written (Began n m))
unfolding stop_after
began_told P n m h = rw h refl
