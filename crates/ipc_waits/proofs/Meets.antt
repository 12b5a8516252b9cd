-- The receiving call that an open call meets: the open call of the thread that it sends to.
use Rattle.std.proofs.lemmas.Option.{none-some, same_Some}
use Rattle.std.proofs.Common.{◌≡◌, refl, sym, ap, ◌∙◌, subst, ℕ, ◌==◌, eq-eqb, Bool, true, false, not, ◌&&◌, List, Option, Some, None, find, option_map, option_and_then, if◌then◌else◌, arith}
use Rattle.std.specs.List.{list_any}
use Rattle.ipc_history.specs.Calls.{numbers, caller_of, to_of}
use Rattle.ipc_history.specs.Threads.{space_of}
use Rattle.ipc_history.specs.Phases.{is_over, open_call, is_sending, is_receiving}
use Rattle.ipc_history.specs.Matching.{accepts, shown_sender, matches, match_of}
use Rattle.ipc_history.specs.NextOutput.{meeting, meeting_of}
use Rattle.ipc_history.specs.Legal.{Legal}
use Rattle.ipc_history.specs.declared.entry.Entry.{Entry}
use Rattle.ipc_laws.proofs.Growth.{open_is_called}
use Rattle.ipc_laws.proofs.OpenCalls.{caller_lives}
use Rattle.ipc_laws.proofs.PhaseParts.{meets_parts}
use Rattle.ipc_laws.proofs.Places.{any_at}
use Rattle.ipc_laws.proofs.Steps.{number_of_open}
use Rattle.ipc_laws.proofs.Tests.{not_both}
use Rattle.ipc_waits.specs.Rules.{awaits_by, may_meet_by, waits_to_receive, waits_to_send}
use Rattle.ipc_threads.specs.Standings.{IsStanding, standing_of, phase_of}
use Rattle.ipc_threads.specs.Slots.{Stands, space_in}
use Rattle.ipc_threads.specs.declared.slot.Phase.{Phase}
use Rattle.ipc_threads.specs.declared.slot.Phase.TheVariants.{Sending, Passing, Receiving, Taking}
use Rattle.ipc_threads.specs.declared.slot.Standing.{Standing}
use Rattle.ipc_threads.specs.declared.kept.KeptSlots.{KeptSlots}
use Rattle.ipc_laws.proofs.Finds.{find_nothing, find_only, find_passes, false_unless}
use Rattle.ipc_threads.proofs.Lookups.{looked_up, none_up, space_found}
use Rattle.ipc_threads.proofs.PhaseFacts.{Says, phase_says}
use Rattle.ipc_threads.proofs.Spaces.{shown_space}
use Rattle.ipc_threads.proofs.StandingSteps.{found, own}

-- The receiving call, in the words of the definitions

module _ (P : List Entry) (legal : Legal P) (n : ℕ) where
  met_is : (k : ℕ) → matches P n k ≡ true → open_call P (to_of P n) ≡ Some k
  met_is k h = let m = meets_parts P n k h in found P legal (to_of P n) k m.receives.opened (sym m.same)

  in_numbers : (m : ℕ) → is_over P m ≡ false → list_any (λ k. k == m) (numbers P) ≡ true
  in_numbers m o = any_at (λ k. k == m) (numbers P) m (number_of_open P m o) (eq-eqb m m refl)

  starts_both : (a b c d e : Bool) → (a && b && c && d && e) ≡ true → (a && d) ≡ true
  starts_both a b c d e h = grind arith

  ends_both : (a b c d e : Bool) → (a && b && c && d && e) ≡ true → (b && e) ≡ true
  ends_both a b c d e h = grind arith

  all_five : (a b c d e : Bool) → (a && d) ≡ true → (b && e) ≡ true → c ≡ true → (a && b && c && d && e) ≡ true
  all_five a b c d e f g h = grind arith

  may : Bool
  may = is_sending P n && not (to_of P n == caller_of P n)

  takes_it : ℕ → Bool
  takes_it m = is_receiving P m && accepts P m (shown_sender P n)

  may_of : (k : ℕ) → matches P n k ≡ true → (is_sending P n && not (to_of P n == caller_of P n)) ≡ true
  unfolding matches
  may_of k h = starts_both (is_sending P n) (is_receiving P k) (to_of P n == caller_of P k) (not (to_of P n == caller_of P n)) (accepts P k (shown_sender P n)) h

  takes_of : (k : ℕ) → matches P n k ≡ true → (is_receiving P k && accepts P k (shown_sender P n)) ≡ true
  unfolding matches
  takes_of k h = ends_both (is_sending P n) (is_receiving P k) (to_of P n == caller_of P k) (not (to_of P n == caller_of P n)) (accepts P k (shown_sender P n)) h

  matches_it : (m : ℕ) → (is_sending P n && not (to_of P n == caller_of P n)) ≡ true → (is_receiving P m && accepts P m (shown_sender P n)) ≡ true → to_of P n ≡ caller_of P m → matches P n m ≡ true
  unfolding matches
  matches_it m a b e = all_five (is_sending P n) (is_receiving P m) (to_of P n == caller_of P m) (not (to_of P n == caller_of P n)) (accepts P m (shown_sender P n)) a b (eq-eqb (to_of P n) (caller_of P m) e)

  pub match_is : match_of P n ≡ (if is_sending P n && not (to_of P n == caller_of P n) then option_and_then (λ m. if is_receiving P m && accepts P m (shown_sender P n) then Some m else None) (open_call P (to_of P n)) else None)
  unfolding match_of
  match_is = decided (is_sending P n && not (to_of P n == caller_of P n)) refl
    where
      at : (m : ℕ) → open_call P (to_of P n) ≡ Some m → (is_sending P n && not (to_of P n == caller_of P n)) ≡ true → (b : Bool) → (is_receiving P m && accepts P m (shown_sender P n)) ≡ b → find (matches P n) (numbers P) ≡ (if b then Some m else None)
      at m e h true t = let mine = own P (to_of P n) m e in find_only (matches P n) m (numbers P) (λ k y. same_Some k m (sym (met_is k y) ∙ e)) (matches_it m h t (sym mine.1)) (in_numbers m mine.0)
      at m e h false t = find_nothing (matches P n) (numbers P) (λ k. false_unless (matches P n k) (λ y. let same : k ≡ m = same_Some k m (sym (met_is k y) ∙ e) in not_both (subst (λ j. (is_receiving P j && accepts P j (shown_sender P n)) ≡ true) same (takes_of k y)) t))

      there : (is_sending P n && not (to_of P n == caller_of P n)) ≡ true → (o : Option ℕ) → open_call P (to_of P n) ≡ o → find (matches P n) (numbers P) ≡ option_and_then (λ m. if is_receiving P m && accepts P m (shown_sender P n) then Some m else None) o
      there h None e = find_nothing (matches P n) (numbers P) (λ k. false_unless (matches P n k) (λ y. none-some k (sym e ∙ met_is k y)))
      there h (Some m) e = at m e h (is_receiving P m && accepts P m (shown_sender P n)) refl

      decided : (b : Bool) → (is_sending P n && not (to_of P n == caller_of P n)) ≡ b → find (matches P n) (numbers P) ≡ (if b then option_and_then (λ m. if is_receiving P m && accepts P m (shown_sender P n) then Some m else None) (open_call P (to_of P n)) else None)
      decided true h = there h (open_call P (to_of P n)) refl
      decided false h = find_nothing (matches P n) (numbers P) (λ k. false_unless (matches P n k) (λ y. not_both (may_of k y) h))

-- and of what is kept

waits_receive_is : (P : List Entry) (n : ℕ) (p : Phase) → Says P n p → waits_to_receive p ≡ is_receiving P n
waits_receive_is P n Sending h = sym h.1
waits_receive_is P n (Passing m) h = sym h.1
waits_receive_is P n Receiving h = sym h.1
waits_receive_is P n (Taking k by bytes) h = sym h.1

waits_send_is : (P : List Entry) (n : ℕ) (p : Phase) → Says P n p → waits_to_send p ≡ is_sending P n
waits_send_is P n Sending h = sym h.0
waits_send_is P n (Passing m) h = sym h.0
waits_send_is P n Receiving h = sym h.0
waits_send_is P n (Taking k by bytes) h = sym h.0

pub receiving_kept : (P : List Entry) → Legal P → (n : ℕ) → is_over P n ≡ false → waits_to_receive (standing_of P n).phase ≡ is_receiving P n
unfolding standing_of
receiving_kept P legal n o = waits_receive_is P n (phase_of P n) (phase_says P legal n o)

pub sending_kept : (P : List Entry) → Legal P → (n : ℕ) → is_over P n ≡ false → waits_to_send (standing_of P n).phase ≡ is_sending P n
unfolding standing_of
sending_kept P legal n o = waits_send_is P n (phase_of P n) (phase_says P legal n o)

may_meet_kept : (P : List Entry) → Legal P → (n : ℕ) → is_over P n ≡ false → may_meet_by (standing_of P n) ≡ (is_sending P n && not (to_of P n == caller_of P n))
unfolding standing_of
may_meet_kept P legal n o = rw (waits_send_is P n (phase_of P n) (phase_says P legal n o)) refl

pub may_meet_is : (P : List Entry) → Legal P → (s : Standing) → IsStanding P s → may_meet_by s ≡ (is_sending P s.number && not (to_of P s.number == caller_of P s.number))
may_meet_is P legal s call = ap may_meet_by call.is ∙ may_meet_kept P legal s.number call.opened

pub awaits_is : (P : List Entry) → Legal P → (n m : ℕ) → is_over P n ≡ false → is_over P m ≡ false → awaits_by (shown_sender P n) (space_of P (caller_of P n) == space_of P (caller_of P m)) (standing_of P m) ≡ (is_receiving P m && accepts P m (shown_sender P n))
unfolding standing_of accepts
awaits_is P legal n m on om = rw (waits_receive_is P m (phase_of P m) (phase_says P legal m om), shown_space P legal n (open_is_called P n on)) refl

pub standing_parts : (P : List Entry) (n : ℕ) → ((standing_of P n).to ≡ to_of P n) × ((standing_of P n).shown ≡ shown_sender P n) × ((standing_of P n).caller ≡ caller_of P n)
unfolding standing_of
standing_parts P n = (refl, refl, refl)

abbrev chosen : ℕ → (Standing → Bool) → Standing → Option Standing
chosen sender test r = (if awaits_by sender (test r) r then Some r else None)

-- the receiving call that the program finds
pub met_law : (P : List Entry) (slots : KeptSlots) → Legal P → Stands P slots → (s : Standing) → IsStanding P s → (if may_meet_by s then option_and_then (λ r. if awaits_by s.shown (space_in slots.table s.caller == space_in slots.table r.caller) r then Some r else None) (option_map (standing_of P) (open_call P s.to)) else None) ≡ option_map (standing_of P) (match_of P s.number)
met_law P slots legal stands s call = rw (may_meet_is P legal s call, match_is P legal s.number) (decided (is_sending P s.number && not (to_of P s.number == caller_of P s.number)))
  where
    n : ℕ
    n = s.number

    to : s.to ≡ to_of P s.number
    to = ap (λ s. s.to) call.is ∙ (standing_parts P s.number).0

    shown : s.shown ≡ shown_sender P s.number
    shown = ap (λ s. s.shown) call.is ∙ (standing_parts P s.number).1

    caller : s.caller ≡ caller_of P s.number
    caller = ap (λ s. s.caller) call.is ∙ (standing_parts P s.number).2

    spaces : (m : ℕ) → is_over P m ≡ false → (space_in slots.table s.caller == space_in slots.table (standing_of P m).caller) ≡ (space_of P (caller_of P s.number) == space_of P (caller_of P m))
    spaces m o = rw (caller, (standing_parts P m).2, space_found P slots legal stands (caller_of P s.number) (caller_lives P legal s.number call.opened), space_found P slots legal stands (caller_of P m) (caller_lives P legal m o)) refl

    of : (m : ℕ) → is_over P m ≡ false → (b : Bool) → (is_receiving P m && accepts P m (shown_sender P s.number)) ≡ b → (if awaits_by s.shown (space_in slots.table s.caller == space_in slots.table (standing_of P m).caller) (standing_of P m) then Some (standing_of P m) else None) ≡ option_map (standing_of P) (if is_receiving P m && accepts P m (shown_sender P s.number) then Some m else None)
    of m o b e = rw (shown, spaces m o, awaits_is P legal s.number m call.opened o) (plain b e)
      where
        plain : (b : Bool) → (is_receiving P m && accepts P m (shown_sender P s.number)) ≡ b → (if is_receiving P m && accepts P m (shown_sender P s.number) then Some (standing_of P m) else None) ≡ option_map (standing_of P) (if is_receiving P m && accepts P m (shown_sender P s.number) then Some m else None)
        plain true e = rw e refl
        plain false e = rw e refl

    go : (o : Option ℕ) → open_call P (to_of P s.number) ≡ o → option_and_then (λ r. if awaits_by s.shown (space_in slots.table s.caller == space_in slots.table r.caller) r then Some r else None) (option_map (standing_of P) o) ≡ option_map (standing_of P) (option_and_then (λ m. if is_receiving P m && accepts P m (shown_sender P s.number) then Some m else None) o)
    go None e = refl
    go (Some m) e = of m (own P (to_of P s.number) m e).0 (is_receiving P m && accepts P m (shown_sender P s.number)) refl

    decided : (b : Bool) → (if b then option_and_then (λ r. if awaits_by s.shown (space_in slots.table s.caller == space_in slots.table r.caller) r then Some r else None) (option_map (standing_of P) (open_call P s.to)) else None) ≡ option_map (standing_of P) (if b then option_and_then (λ m. if is_receiving P m && accepts P m (shown_sender P s.number) then Some m else None) (open_call P (to_of P s.number)) else None)
    decided true = rw to (go (open_call P (to_of P s.number)) refl)
    decided false = refl

pub match_open : (P : List Entry) (n m : ℕ) → match_of P n ≡ Some m → is_over P m ≡ false
unfolding match_of
match_open P n m e = (meets_parts P n m (find_passes (matches P n) m (numbers P) e)).receives.opened

pub meeting_told : (P : List Entry) (n : ℕ) (r : Standing) → Some r ≡ option_map (standing_of P) (match_of P n) → Some (meeting P n r.number) ≡ meeting_of P n
unfolding meeting_of
meeting_told P n r e = rw ((looked_up P (match_of P n) (match_open P n) r e).0) refl

pub meeting_none : (P : List Entry) (n : ℕ) → None ≡ option_map (standing_of P) (match_of P n) → None ≡ meeting_of P n
unfolding meeting_of
meeting_none P n e = rw (none_up P (match_of P n) e) refl
