-- A quiet history is at rest.
use Rattle.std.proofs.lemmas.Bool.{false_from_ne_true}
use Rattle.std.proofs.lemmas.Option.{none-some}
use Rattle.std.proofs.Common.{◌≡◌, ◌≢◌, refl, sym, ◌∙◌, ℕ, ◌+◌, ◌*◌, true, false, eq-eqb, List, Option, Some, None, option_map, find, if◌then◌else◌}
use Rattle.ipc_history.specs.Calls.{numbers, message_size}
use Rattle.ipc_history.specs.Phases.{receiver_of, sender_of, is_sending, is_transferring, moved_bytes}
use Rattle.ipc_history.specs.Matching.{matches, match_of}
use Rattle.ipc_history.specs.Timing.{is_due}
use Rattle.ipc_history.specs.NextOutput.{end_of, is_send_partner_gone, is_receive_partner_gone, is_left, left_sender_code, left_receiver_code, partner_gone_code, partner_gone_of, meeting, meeting_of, timeout_of}
use Rattle.ipc_history.specs.Legal.{Quiet}
use Rattle.ipc_laws.specs.Locality.{Possible}
use Rattle.ipc_laws.specs.Locality.Possible.{Ends, LosesReceiver, LosesSender, LeftSending, LeftReceiving, Meets, Expires}
use Rattle.ipc_history.specs.declared.entry.Entry.{Entry}
use Rattle.ipc_history.specs.declared.entry.Output.{Output}
use Rattle.ipc_history.specs.declared.entry.Output.TheVariants.{Ended, Failed}
use Rattle.ipc_laws.proofs.Growth.{open_is_called}
use Rattle.ipc_laws.proofs.Moving.{none_right, quiet_rests}
use Rattle.ipc_laws.proofs.PhaseParts.{due_open, left_open, meets_parts, partner_gone_receives, partner_gone_sends, passes_parts}
use Rattle.ipc_laws.proofs.Places.{find_none}
use Rattle.ipc_laws.proofs.Steps.{number_of_open}
use Rattle.ipc_laws.proofs.Tests.{not_both}

pub record IsAtRest (P : List Entry) : Type 0 where
  pub transfers : (n m : ℕ) → is_transferring P n m ≡ true → moved_bytes P n ≢ message_size P n
  pub sends : (n : ℕ) → is_send_partner_gone P n ≡ false
  pub receives : (n : ℕ) → is_receive_partner_gone P n ≡ false
  pub left_sends : (n m : ℕ) → receiver_of P n ≡ Some m → is_left P n n m m ≡ false
  pub left_receives : (n k : ℕ) → sender_of P n ≡ Some k → is_left P n k n k ≡ false
  pub meets : (n m : ℕ) → matches P n m ≡ false
  pub due : (n : ℕ) → is_due P n ≡ false

none_mapped : {X Y : Type 0} (f : X → Y) (o : Option X) → option_map f o ≡ None → o ≡ None
none_mapped f None h = refl
none_mapped f (Some x) h = absurd (none-some (f x) (sym h))

module _ (P : List Entry) (q : Quiet P) where
  whole_is_ending : (n m : ℕ) → is_transferring P n m ≡ true → moved_bytes P n ≢ message_size P n
  unfolding end_of
  whole_is_ending n m t e =
      let p = passes_parts P n m t in
      let gives : end_of P n ≡ Some (Ended n m) = rw (p.pair, t, eq-eqb (moved_bytes P n) (message_size P n) e) refl in
      none-some (Ended n m) (sym (quiet_rests P q n (open_is_called P n p.opened)).ends ∙ gives)

  keeps_receiver : (n : ℕ) → is_send_partner_gone P n ≡ false
  unfolding partner_gone_of partner_gone_code
  keeps_receiver n = false_from_ne_true _ (λ g.
      let gives : partner_gone_of P n ≡ Some (Failed n 0x4) = rw g refl in
      none-some (Failed n 0x4) (sym (quiet_rests P q n (open_is_called P n (partner_gone_sends P n g).opened)).fails ∙ gives))

  keeps_sender : (n : ℕ) → is_receive_partner_gone P n ≡ false
  unfolding partner_gone_of partner_gone_code
  keeps_sender n = false_from_ne_true _ (λ g.
      let gives : partner_gone_of P n ≡ Some (Failed n 0x5) = rw (keeps_receiver n, g) refl in
      none-some (Failed n 0x5) (sym (quiet_rests P q n (open_is_called P n (partner_gone_receives P n g).opened)).fails ∙ gives))

  not_left_sending : (n m : ℕ) → receiver_of P n ≡ Some m → is_left P n n m m ≡ false
  unfolding partner_gone_of partner_gone_code left_sender_code
  not_left_sending n m pair = false_from_ne_true _ (λ g.
      let code = 0xe + 16 * moved_bytes P n in
      let gives : partner_gone_of P n ≡ Some (Failed n code) = rw (keeps_receiver n, keeps_sender n, pair, g) refl in
      none-some (Failed n code) (sym (quiet_rests P q n (open_is_called P n (left_open P n n m m g))).fails ∙ gives))

  not_left_receiving : (n k : ℕ) → sender_of P n ≡ Some k → is_left P n k n k ≡ false
  unfolding partner_gone_of partner_gone_code left_receiver_code
  not_left_receiving n k pair = false_from_ne_true _ (λ g.
      let code = 0xf + 16 * moved_bytes P k in
      let none : partner_gone_code P n ≡ None = none_mapped (λ code. Failed n code) _ (quiet_rests P q n (open_is_called P n (left_open P n k n k g))).fails in
      let second : left_receiver_code P n ≡ None = none_right (left_sender_code P n) (left_receiver_code P n) (rw (keeps_receiver n, keeps_sender n) at none) in
      let gives : left_receiver_code P n ≡ Some code = rw (pair, g) refl in
      none-some code (sym second ∙ gives))

  meets_none : (n m : ℕ) → matches P n m ≡ false
  unfolding meeting_of match_of
  meets_none n m = false_from_ne_true _ (λ g.
      let p = meets_parts P n m g in
      let none = none_mapped (meeting P n) (find (matches P n) (numbers P)) (quiet_rests P q n (open_is_called P n p.sends.opened)).meets in
      not_both g (find_none (matches P n) (numbers P) m none (number_of_open P m p.receives.opened)))

  none_due : (n : ℕ) → is_due P n ≡ false
  unfolding timeout_of
  none_due n = false_from_ne_true _ (λ g.
      let gives : timeout_of P n ≡ Some (Failed n (if is_sending P n then 0x2 else 0x3)) = rw g refl in
      none-some _ (sym (quiet_rests P q n (open_is_called P n (due_open P n g))).expires ∙ gives))

  pub is_at_rest : IsAtRest P
  is_at_rest = record {
    transfers = whole_is_ending;
    sends = keeps_receiver;
    receives = keeps_sender;
    left_sends = not_left_sending;
    left_receives = not_left_receiving;
    meets = meets_none;
    due = none_due;
  }

-- so nothing is possible
pub none_possible : (P : List Entry) → Quiet P → (output : Output) → Possible P output → ⊥
none_possible P q output (Ends n m t full is) = (is_at_rest P q).transfers n m t full
none_possible P q output (LosesReceiver n g is) = not_both g ((is_at_rest P q).sends n)
none_possible P q output (LosesSender n g is) = not_both g ((is_at_rest P q).receives n)
none_possible P q output (LeftSending n m pair g is) = not_both g ((is_at_rest P q).left_sends n m pair)
none_possible P q output (LeftReceiving n k pair g is) = not_both g ((is_at_rest P q).left_receives n k pair)
none_possible P q output (Meets n m g is) = not_both g ((is_at_rest P q).meets n m)
none_possible P q output (Expires n g is) = not_both g ((is_at_rest P q).due n)
