-- What each kind of input makes possible after a quiet history.
use Rattle.std.proofs.lemmas.Bool.{false≢true, false_from_ne_true, or_left, or_right}
use Rattle.std.proofs.Common.{◌≡◌, refl, sym, ap, subst, ◌∙◌, ℕ, ◌+◌, Bool, true, false, ◌&&◌, ◌==◌, eq-eqb, eqb-true, if◌then◌else◌, List, [], ◌∷◌, ◌++◌, Option, Some, None, add-zero}
use Rattle.std.specs.Option.{option_or}
use Rattle.ipc_words.specs.Control.{stops_receive, stops_send}
use Rattle.ipc_history.specs.CallParts.{CallParts}
use Rattle.ipc_history.specs.Words.{first_some}
use Rattle.ipc_history.specs.Entries.{moment_in, names}
use Rattle.ipc_history.specs.Calls.{numbers, is_called, message_size}
use Rattle.ipc_history.specs.Threads.{is_live, space_of}
use Rattle.ipc_history.specs.Phases.{receiver_of, sender_of, open_call, is_sending, is_transferring, is_receiving, moved_bytes}
use Rattle.ipc_history.specs.Matching.{matches}
use Rattle.ipc_history.specs.Timing.{is_due}
use Rattle.ipc_history.specs.NextOutput.{abort_send, abort_receive, stop, stop_send, stop_receive, stop_after, meeting, timeout_of, next_output}
use Rattle.ipc_history.specs.Legal.{Legal, Quiet}
use Rattle.ipc_history.specs.declared.entry.Entry.{Entry}
use Rattle.ipc_history.specs.declared.entry.Entry.TheVariants.{Given, Written}
use Rattle.ipc_history.specs.declared.entry.Input.{Input}
use Rattle.ipc_history.specs.declared.entry.Input.TheVariants.{Opened, Called, Exreg, Broke, Moved}
use Rattle.ipc_history.specs.declared.entry.Output.{Output}
use Rattle.ipc_history.specs.declared.entry.Output.TheVariants.{Ended, Failed}
use Rattle.ipc_laws.specs.Locality.{LosesPartner, MayCome, Possible}
use Rattle.ipc_laws.specs.Locality.MayCome.{Sends, Receives, Fails}
use Rattle.ipc_laws.proofs.Comes.{after_input, comes, later_output}
use Rattle.ipc_laws.proofs.Gives.{Gives, Gives-and_then, Gives-at, Gives-if, Gives-or}
use Rattle.ipc_laws.proofs.Gives.Gives.{Nothing, This}
use Rattle.ipc_laws.proofs.IdleChanges.{idle_exreg}
use Rattle.ipc_laws.proofs.IdleOutputs.{first_some_none, idle_brings, same_stop_after}
use Rattle.ipc_laws.proofs.InputLeaves.{Q, was_due}
use Rattle.ipc_laws.proofs.Numbering.{number_was_called}
use Rattle.ipc_laws.proofs.Resting.{is_at_rest}
use Rattle.ipc_laws.proofs.Tests.{not_both}
use Rattle.ipc_laws.proofs.Touching.{Touches, touches}
use Rattle.ipc_laws.proofs.Touching.Touches.{Fills, Leaves, NewSends, NewReceives, NewFails}
use Rattle.ipc_laws.proofs.WordLemmas.{option_or_none}

-- what comes after an input that stops nothing
pub later_possible : (P : List Entry) (input : Input) → stop_after (Q P input) (Given input) ≡ None → (output : Output) → next_output (Q P input) ≡ Some output → Possible (Q P input) output
later_possible P input none output e = comes (Q P input) output (sym (after_input P input ∙ ap (λ o. option_or o (later_output (Q P input))) none) ∙ e)

later_touches : (P : List Entry) → Legal P → Quiet P → (input : Input) → stop_after (Q P input) (Given input) ≡ None → moment_in (Given input) ≡ None → (output : Output) → next_output (Q P input) ≡ Some output → Touches P input output
later_touches P l q input none still output e = touches P l (is_at_rest P q) input output still (later_possible P input none output e)

-- a transfer that nothing is copied for isn't filled
unfilled : (P : List Entry) (q : Quiet P) (n m : ℕ) → is_transferring P n m ≡ true → moved_bytes P n + 0 ≡ message_size P n → ⊥
unfilled P q n m t full = (is_at_rest P q).transfers n m t (sym (add-zero (moved_bytes P n)) ∙ full)

module _ (P : List Entry) (thread space : ℕ) (l : Legal P) (q : Quiet P) where
  opened_brings_none : (output : Output) → next_output (P ++ Given (Opened thread space) ∷ []) ≡ Some output → ⊥
  unfolding stop_after
  opened_brings_none output e = go (later_touches P l q (Opened thread space) refl refl output e)
    where
      go : Touches P (Opened thread space) output → ⊥
      go (Fills n m t full is) = unfilled P q n m t full
      go (Leaves n code other b why is) = false≢true b
      go (NewSends n m new meets is) = false≢true new
      go (NewReceives n m new meets is) = false≢true new
      go (NewFails n code new is) = false≢true new

  pub opened_stays_quiet : Quiet (P ++ Given (Opened thread space) ∷ [])
  opened_stays_quiet = go (next_output (P ++ Given (Opened thread space) ∷ [])) refl
    where
      go : (o : Option Output) → next_output (P ++ Given (Opened thread space) ∷ []) ≡ o → next_output (P ++ Given (Opened thread space) ∷ []) ≡ None
      go None e = e
      go (Some output) e = absurd (opened_brings_none output e)

pub called_brings : (P : List Entry) (n thread : ℕ) (call : CallParts) → Legal P → Quiet P → (output : Output) → next_output (P ++ Given (Called n thread call) ∷ []) ≡ Some output → MayCome (P ++ Given (Called n thread call) ∷ []) n output
unfolding stop_after
called_brings P n thread call l q output e = go (later_touches P l q input refl refl output e)
  where
    input : Input
    input = Called n thread call

    go : Touches P (Called n thread call) output → MayCome (P ++ Given (Called n thread call) ∷ []) n output
    go (Fills k m t full is) = absurd (unfilled P q k m t full)
    go (Leaves k code other b why is) = absurd (false≢true b)
    go (NewSends k m new meets is) = let same : n ≡ k = eqb-true n k new in Sends m (subst (λ k. matches (P ++ Given (Called n thread call) ∷ []) k m ≡ true) (sym same) meets) (subst (λ k. output ≡ meeting (P ++ Given (Called n thread call) ∷ []) k m) (sym same) is)
    go (NewReceives k m new meets is) = let same : n ≡ m = eqb-true n m new in Receives k (subst (λ m. matches (P ++ Given (Called n thread call) ∷ []) k m ≡ true) (sym same) meets) (subst (λ m. output ≡ meeting (P ++ Given (Called n thread call) ∷ []) k m) (sym same) is)
    go (NewFails k code new is) = let same : n ≡ k = eqb-true n k new in Fails code (is ∙ ap (λ k. Failed k code) (sym same))

pub broke_possible : (P : List Entry) (thread : ℕ) → Legal P → Quiet P → (output : Output) → Possible (P ++ Given (Broke thread) ∷ []) output → (n : ℕ) × (code : ℕ) × (output ≡ Failed n code) × LosesPartner P thread n code
broke_possible P thread l q output possible = go (touches P l (is_at_rest P q) (Broke thread) output refl possible)
  where
    go : Touches P (Broke thread) output → (n : ℕ) × (code : ℕ) × (output ≡ Failed n code) × LosesPartner P thread n code
    go (Fills n m t full is) = absurd (unfilled P q n m t full)
    go (Leaves n code other b why is) = let same : thread ≡ other = eqb-true thread other b in (n, code, is, subst (λ t. LosesPartner P t n code) (sym same) why)
    go (NewSends n m new meets is) = absurd (false≢true new)
    go (NewReceives n m new meets is) = absurd (false≢true new)
    go (NewFails n code new is) = absurd (false≢true new)

pub broke_fails : (P : List Entry) (thread : ℕ) → Legal P → Quiet P → (output : Output) → next_output (P ++ Given (Broke thread) ∷ []) ≡ Some output → (n : ℕ) × (code : ℕ) × (output ≡ Failed n code) × LosesPartner P thread n code
unfolding stop_after
broke_fails P thread l q output e = broke_possible P thread l q output (later_possible P (Broke thread) refl output e)

pub moved_ends : (P : List Entry) (n count : ℕ) → Legal P → Quiet P → (output : Output) → next_output (P ++ Given (Moved n count) ∷ []) ≡ Some output → (m : ℕ) × (output ≡ Ended n m) × (is_transferring P n m ≡ true) × (moved_bytes P n + count ≡ message_size P n)
unfolding stop_after
moved_ends P n count l q output e = go (later_touches P l q (Moved n count) refl refl output e)
  where
    fills : (k m : ℕ) → is_transferring P k m ≡ true → output ≡ Ended k m → (b : Bool) → (n == k) ≡ b → moved_bytes P k + (if b then count else 0) ≡ message_size P k → (m : ℕ) × (output ≡ Ended n m) × (is_transferring P n m ≡ true) × (moved_bytes P n + count ≡ message_size P n)
    fills k m t is false other full = absurd (unfilled P q k m t full)
    fills k m t is true itself full = let same : n ≡ k = eqb-true n k itself in (m, is ∙ ap (λ k. Ended k m) (sym same), subst (λ k. is_transferring P k m ≡ true) (sym same) t, subst (λ k. moved_bytes P k + count ≡ message_size P k) (sym same) full)

    go : Touches P (Moved n count) output → (m : ℕ) × (output ≡ Ended n m) × (is_transferring P n m ≡ true) × (moved_bytes P n + count ≡ message_size P n)
    go (Fills k m t full is) = fills k m t is (n == k) refl full
    go (Leaves k code other b why is) = absurd (false≢true b)
    go (NewSends k m new meets is) = absurd (false≢true new)
    go (NewReceives k m new meets is) = absurd (false≢true new)
    go (NewFails k code new is) = absurd (false≢true new)

-- What an ExchangeRegisters stops

pub exreg_brings : (P : List Entry) (thread target control : ℕ) → Quiet P → next_output (P ++ Given (Exreg thread target control) ∷ []) ≡ stop_after P (Given (Exreg thread target control))
unfolding timeout_of
exreg_brings P thread target control q =
    let input = Exreg thread target control in
    let after = Q P input in
    let none : first_some (timeout_of after) (numbers P) ≡ None = first_some_none (timeout_of after) (numbers P) (λ n at. rw (undue n (number_was_called P n at)) refl) in
    idle_brings P input (idle_exreg thread target control) q ∙ (ap (λ o. option_or (stop_after after (Given input)) o) none ∙ (option_or_none _ ∙ same_stop_after P thread target control))
  where
    undue : (n : ℕ) → is_called P n ≡ true → is_due (P ++ Given (Exreg thread target control) ∷ []) n ≡ false
    undue n c = false_from_ne_true _ (λ d. not_both (was_due P (Exreg thread target control) n c refl d) ((is_at_rest P q).due n))

module _ (P : List Entry) (target : ℕ) where
  -- an output that names the open call of the target
  abbrev OfTarget : Output → Type 0
  OfTarget output = (c : ℕ) × (open_call P target ≡ Some c) × (names c (Written output) ≡ true)

  stop_names : (control c : ℕ) → open_call P target ≡ Some c → Gives OfTarget (stop P control c)
  unfolding stop stop_send stop_receive abort_send abort_receive
  stop_names control c e = Gives-or
      (Gives-if (stops_send control) _ _ (λ s. Gives-if (is_sending P c) _ _ (λ p. This (c, e, eq-eqb c c refl)) (λ n. Gives-and_then _ (receiver_of P c) (λ m r. Gives-if (is_transferring P c m) _ _ (λ t. This (c, e, or_left (c == c) (m == c) (eq-eqb c c refl))) (λ t. Nothing)))) (λ s. Nothing))
      (Gives-if (stops_receive control) _ _ (λ s. Gives-if (is_receiving P c) _ _ (λ p. This (c, e, eq-eqb c c refl)) (λ n. Gives-and_then _ (sender_of P c) (λ k r. Gives-if (is_transferring P k c) _ _ (λ t. This (c, e, or_right (k == c) (c == c) (eq-eqb c c refl))) (λ t. Nothing)))) (λ s. Nothing))

  stop_after_names : (thread control : ℕ) → Gives OfTarget (stop_after P (Given (Exreg thread target control)))
  unfolding stop_after
  stop_after_names thread control = Gives-if (is_live P target && (space_of P target == space_of P thread)) _ _ (λ p. Gives-and_then _ (open_call P target) (λ c e. stop_names control c e)) (λ p. Nothing)

pub exreg_stops : (P : List Entry) (thread target control : ℕ) → Quiet P → (output : Output) → next_output (P ++ Given (Exreg thread target control) ∷ []) ≡ Some output → (c : ℕ) × (open_call P target ≡ Some c) × (names c (Written output) ≡ true)
exreg_stops P thread target control q output e = Gives-at _ output (stop_after_names P target thread control) (sym (exreg_brings P thread target control q) ∙ e)
