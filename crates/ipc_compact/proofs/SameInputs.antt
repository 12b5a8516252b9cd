-- Two histories that agree have one list of admissible inputs.
use Rattle.std.proofs.Common.{◌≡◌, refl, ap, ◌∙◌, ℕ, ◌==◌, Bool, true, false, not, ◌&&◌, List, Option, Some, None, eqb-true, arith}
use Rattle.std.specs.Option.{option_map_or}
use Rattle.ipc_history.specs.Calls.{numbers, caller_of}
use Rattle.ipc_history.specs.Phases.{is_over, open_call, receiver_of, is_transferring}
use Rattle.ipc_history.specs.Blocks.{block_of}
use Rattle.ipc_history.specs.Legal.{Legal, is_free, next_moving, may_open, may_move, is_admissible}
use Rattle.ipc_history.specs.declared.entry.Entry.{Entry}
use Rattle.ipc_history.specs.declared.entry.Input.{Input}
use Rattle.ipc_history.specs.declared.entry.Input.TheVariants.{At, Opened, Called, Exreg, Broke, Moved}
use Rattle.ipc_words.specs.ThreadId.{number_of}
use Rattle.ipc_laws.proofs.Tests.{not_both}
use Rattle.ipc_threads.proofs.Overs.{over_not_transferring}
use Rattle.ipc_laws.proofs.Finds.{find_passes}
use Rattle.ipc_compact.specs.Agree.{Agree}
use Rattle.ipc_compact.proofs.SameCalls as same
use Rattle.ipc_compact.proofs.SameRules.{find_same, numbers_same, by_over}

not_open : (a b : Bool) → b ≡ true → (a && not b) ≡ false
not_open a b h = grind arith

no_option : (o : Option ℕ) (f : ℕ → Bool) → ((m : ℕ) → f m ≡ false) → option_map_or f o false ≡ false
no_option None f h = refl
no_option (Some m) f h = h m

module _ (P Q : List Entry) (legal : Legal P) (legal' : Legal Q) (agree : Agree P Q) where
  abbrev of_thread : ℕ → List Entry → ℕ → Bool
  of_thread t P n = (caller_of P n == t) && not (is_over P n)

  of_thread_same : (t n : ℕ) → of_thread t P n ≡ of_thread t Q n
  of_thread_same t n = by_over P Q legal legal' agree Bool (of_thread t) false (λ P n o. not_open (caller_of P n == t) (is_over P n) o) n
      (λ o. rw (same.caller P Q n (agree.calls n o).call, agree.over n) refl)

  pub open_call_same : (t : ℕ) → open_call P t ≡ open_call Q t
  unfolding open_call
  open_call_same t = rw (numbers_same P Q legal legal' agree) (find_same (of_thread t P) (of_thread t Q) (of_thread_same t) (numbers Q))

  free_same : (t : ℕ) → is_free P t ≡ is_free Q t
  unfolding is_free
  free_same t = rw (agree.live t, open_call_same t) refl

  abbrev moves : List Entry → ℕ → Bool
  moves P n = option_map_or (is_transferring P n) (receiver_of P n) false

  moves_open : (n : ℕ) → is_over P n ≡ false → moves P n ≡ moves Q n
  moves_open n o = rw (← (agree.calls n o).receiver) (go (receiver_of P n))
    where
      go : (r : Option ℕ) → option_map_or (is_transferring P n) r false ≡ option_map_or (is_transferring Q n) r false
      go None = refl
      go (Some m) = same.transferring P Q agree n o m

  moves_same : (n : ℕ) → moves P n ≡ moves Q n
  moves_same n = by_over P Q legal legal' agree Bool moves false (λ P n o. no_option (receiver_of P n) (is_transferring P n) (λ m. over_not_transferring P n m o)) n (moves_open n)

  moving_same : next_moving P ≡ next_moving Q
  unfolding next_moving
  moving_same = rw (numbers_same P Q legal legal' agree) (find_same (moves P) (moves Q) moves_same (numbers Q))

  moving_open : (n : ℕ) → next_moving P ≡ Some n → is_over P n ≡ false
  unfolding next_moving
  moving_open n e = go (is_over P n) refl
    where
      none : is_over P n ≡ true → moves P n ≡ false
      none o = no_option (receiver_of P n) (is_transferring P n) (λ m. over_not_transferring P n m o)

      go : (b : Bool) → is_over P n ≡ b → is_over P n ≡ false
      go true o = not_both (find_passes (moves P) n (numbers P) e) (none o)
      go false o = o

  may_move_same : (n count : ℕ) → may_move P n count ≡ may_move Q n count
  unfolding may_move
  may_move_same n count = rw (← moving_same) (go (next_moving P) refl)
    where
      go : (r : Option ℕ) → next_moving P ≡ r → (option_map_or (λ k. k == n) r false && (count == block_of P n)) ≡ (option_map_or (λ k. k == n) r false && (count == block_of Q n))
      go None e = refl
      go (Some k) e = at (k == n) refl
        where
          size_same : (k ≡ n) → block_of P n ≡ block_of Q n
          size_same is = let o = moving_open n (e ∙ ap (λ x. Some x) is) in rw (same.size P Q n (agree.calls n o).call, (agree.calls n o).bytes) refl

          at : (b : Bool) → (k == n) ≡ b → (b && (count == block_of P n)) ≡ (b && (count == block_of Q n))
          at true is = ap (λ x. count == x) (size_same (eqb-true k n is))
          at false is = refl

  pub inputs_same : (input : Input) → is_admissible P input ≡ is_admissible Q input
  unfolding is_admissible may_open
  inputs_same (At moment) = rw agree.moment refl
  inputs_same (Opened thread space) = rw (agree.taken (number_of thread), agree.version (number_of thread)) refl
  inputs_same (Called n thread call) = rw (free_same thread, agree.made) refl
  inputs_same (Exreg thread target control) = rw (free_same thread) refl
  inputs_same (Broke thread) = agree.live thread
  inputs_same (Moved n count) = may_move_same n count

pub same_inputs : (P Q : List Entry) → Legal P → Legal Q → Agree P Q → (input : Input) → is_admissible P input ≡ is_admissible Q input
same_inputs P Q legal legal' agree input = inputs_same P Q legal legal' agree input
