-- Two histories that agree have one next output.
use Rattle.std.proofs.Common.{◌≡◌, refl, sym, ap, ◌∙◌, ℕ, ◌==◌, Bool, true, false, not, ◌&&◌, List, [], ◌∷◌, Option, Some, None, option_map, find, arith}
use Rattle.ipc_history.specs.Words.{first_some}
use Rattle.ipc_history.specs.Calls.{numbers, caller_of, to_of}
use Rattle.ipc_history.specs.Threads.{now, space_of}
use Rattle.ipc_history.specs.Timing.{is_due}
use Rattle.ipc_history.specs.Phases.{is_over, is_sending, is_receiving}
use Rattle.ipc_history.specs.Matching.{shown_sender, accepts, matches, match_of}
use Rattle.ipc_history.specs.NextOutput.{next_output, end_of, partner_gone_of, meeting, meeting_of, timeout_of}
use Rattle.ipc_history.specs.Legal.{Legal}
use Rattle.ipc_history.specs.declared.entry.Entry.{Entry}
use Rattle.ipc_history.specs.declared.entry.Output.{Output}
use Rattle.ipc_laws.specs.Laws.{up_to}
use Rattle.ipc_laws.proofs.Numbering.{numbered}
use Rattle.ipc_laws.proofs.OpenCalls.{caller_lives}
use Rattle.ipc_laws.proofs.PhaseParts.{meets_parts}
use Rattle.ipc_laws.proofs.Finds.{find_passes}
use Rattle.ipc_threads.proofs.Overs.{over_not_receiving, over_no_end, over_no_partner, over_no_meeting, over_not_due}
use Rattle.ipc_compact.specs.Agree.{Agree, SameEnd}
use Rattle.ipc_compact.proofs.SameCalls as same

-- functions that give the same for each element
pub first_some_same : {X Y : Type 0} (f g : X → Option Y) → ((x : X) → f x ≡ g x) → (xs : List X) → first_some f xs ≡ first_some g xs
first_some_same f g h [] = refl
first_some_same f g h (x ∷ xs) = rw (h x, first_some_same f g h xs) refl

pub find_same : {X : Type 0} (f g : X → Bool) → ((x : X) → f x ≡ g x) → (xs : List X) → find f xs ≡ find g xs
find_same f g h [] = refl
find_same f g h (x ∷ xs) = rw (h x, find_same f g h xs) refl

and_false : (a b c d e : Bool) → b ≡ false → (a && b && c && d && e) ≡ false
and_false a b c d e h = grind arith

module _ (P Q : List Entry) (legal : Legal P) (legal' : Legal Q) (agree : Agree P Q) where
  pub numbers_same : numbers P ≡ numbers Q
  numbers_same = numbered P legal ∙ (ap up_to agree.made ∙ sym (numbered Q legal'))

  -- by cases on whether a call is over
  pub by_over : (Z : Type 0) (f : List Entry → ℕ → Z) (z : Z) → ((P : List Entry) (n : ℕ) → is_over P n ≡ true → f P n ≡ z) → (n : ℕ) → (is_over P n ≡ false → f P n ≡ f Q n) → f P n ≡ f Q n
  by_over Z f z over n opened = go (is_over P n) refl
    where
      go : (b : Bool) → is_over P n ≡ b → f P n ≡ f Q n
      go true o = over P n o ∙ sym (over Q n (sym (agree.over n) ∙ o))
      go false o = opened o

  accepts_same : (n m : ℕ) → is_over P n ≡ false → is_over P m ≡ false → accepts P m (shown_sender P n) ≡ accepts Q m (shown_sender Q n)
  unfolding accepts
  accepts_same n m o o' =
      let it = agree.calls n o in
      let other = agree.calls m o' in
      let by = same.caller P Q m other.call in
      let there : space_of P (caller_of P m) ≡ space_of Q (caller_of Q m) = agree.space (caller_of P m) (caller_lives P legal m o') ∙ ap (space_of Q) by in
      rw (other.wanted, there, it.space, it.shown) refl

  matches_open : (n m : ℕ) → is_over P n ≡ false → is_over P m ≡ false → matches P n m ≡ matches Q n m
  unfolding matches
  matches_open n m o o' =
      let it = agree.calls n o in
      let other = agree.calls m o' in
      rw (same.sending P Q agree n o, same.receiving P Q agree m o', same.to P Q n it.call, same.caller P Q n it.call, same.caller P Q m other.call, accepts_same n m o o') refl

  over_unmatched : (P : List Entry) (n m : ℕ) → is_over P m ≡ true → matches P n m ≡ false
  unfolding matches
  over_unmatched P n m o = and_false (is_sending P n) (is_receiving P m) (to_of P n == caller_of P m) (not (to_of P n == caller_of P n)) (accepts P m (shown_sender P n)) (over_not_receiving P m o)

  matches_same : (n m : ℕ) → is_over P n ≡ false → matches P n m ≡ matches Q n m
  matches_same n m o = by_over Bool (λ P m. matches P n m) false (λ P m o'. over_unmatched P n m o') m (λ o'. matches_open n m o o')

  match_same : (n : ℕ) → is_over P n ≡ false → match_of P n ≡ match_of Q n
  unfolding match_of
  match_same n o = rw numbers_same (find_same (matches P n) (matches Q n) (λ m. matches_same n m o) (numbers Q))

  met_open : (n m : ℕ) → match_of P n ≡ Some m → is_over P m ≡ false
  unfolding match_of
  met_open n m e = (meets_parts P n m (find_passes (matches P n) m (numbers P) e)).receives.opened

  meeting_same : (n m : ℕ) → is_over P n ≡ false → is_over P m ≡ false → meeting P n m ≡ meeting Q n m
  unfolding meeting
  meeting_same n m o o' = rw (same.strings P Q n (agree.calls n o).call, same.buffers P Q m (agree.calls m o').call) refl

  meetings_same : (n : ℕ) → is_over P n ≡ false → meeting_of P n ≡ meeting_of Q n
  unfolding meeting_of
  meetings_same n o = rw (← match_same n o) (go (match_of P n) refl)
    where
      go : (r : Option ℕ) → match_of P n ≡ r → option_map (meeting P n) r ≡ option_map (meeting Q n) r
      go None e = refl
      go (Some m) e = ap (λ y. Some y) (meeting_same n m o (met_open n m e))

  over_no_timeout : (P : List Entry) (n : ℕ) → is_over P n ≡ true → timeout_of P n ≡ None
  unfolding timeout_of is_due
  over_no_timeout P n o = rw (over_not_due P (now P) n o) refl

  rule_same : (f : List Entry → ℕ → Option Output) → ((P : List Entry) (n : ℕ) → is_over P n ≡ true → f P n ≡ None) → ((n : ℕ) → is_over P n ≡ false → f P n ≡ f Q n) → first_some (f P) (numbers P) ≡ first_some (f Q) (numbers Q)
  rule_same f over opened = rw numbers_same (first_some_same (f P) (f Q) (λ n. by_over (Option Output) f None over n (opened n)) (numbers Q))

  pub output_same : SameEnd P Q → next_output P ≡ next_output Q
  unfolding next_output
  output_same ends = rw (ends.stops, ends.turns, rule_same end_of over_no_end (same.ends_same P Q agree), rule_same partner_gone_of over_no_partner (same.gone_same P Q agree), rule_same meeting_of over_no_meeting meetings_same, rule_same timeout_of over_no_timeout (same.timeout_same P Q agree)) refl

pub same_output : (P Q : List Entry) → Legal P → Legal Q → Agree P Q → SameEnd P Q → next_output P ≡ next_output Q
same_output P Q legal legal' agree ends = output_same P Q legal legal' agree ends
