-- What the rules give for an open call, by what is kept of it.
use Rattle.std.proofs.lemmas.Bool.{true_from_ne_false}
use Rattle.std.proofs.Common.{◌≡◌, refl, ap, ◌∙◌, ℕ, ◌+◌, ◌*◌, ◌==◌, ◌||◌, ◌&&◌, not, if◌then◌else◌, Bool, true, false, List, Option, Some, None, option_map, option_and_then, ◌≤◌, arith}
use Rattle.std.specs.List.{list_any}
use Rattle.std.specs.Option.{option_or}
use Rattle.ipc_words.specs.Limits.{max_string_bytes}
use Rattle.ipc_words.specs.ThreadId.{nilthread}
use Rattle.ipc_history.specs.Entries.{ends}
use Rattle.ipc_history.specs.Calls.{is_called, caller_of, to_of, message_size, send_period_of, receive_period_of}
use Rattle.ipc_history.specs.Threads.{now, is_live, has_broken}
use Rattle.ipc_history.specs.Phases.{is_sent, is_over, receiver_of, sender_of, is_sending, is_receiving, is_transferring, moved_bytes}
use Rattle.ipc_history.specs.Matching.{before_call}
use Rattle.ipc_history.specs.Timing.{receive_start, is_past, is_due_at}
use Rattle.ipc_history.specs.NextOutput.{end_of, is_left, is_send_partner_gone, is_receive_partner_gone, left_sender_code, left_receiver_code, partner_gone_code, partner_gone_of}
use Rattle.ipc_history.specs.Legal.{Legal}
use Rattle.ipc_history.specs.declared.entry.Entry.{Entry}
use Rattle.ipc_history.specs.declared.entry.Output.TheVariants.{Ended, Failed}
use Rattle.ipc_laws.proofs.Moving.{paired_to}
use Rattle.ipc_laws.proofs.Normal.{moves_fit}
use Rattle.ipc_laws.proofs.OpenCalls.{caller_opened}
use Rattle.ipc_laws.proofs.Pairing.{pair_called, receiver_of_sender}
use Rattle.ipc_threads.specs.Steps.{taken}
use Rattle.ipc_laws.proofs.OnePhase.{passes_apart}
use Rattle.ipc_laws.proofs.PhaseParts.{sends_parts}
use Rattle.ipc_laws.specs.Laws.{timeout_at as due_of}
use Rattle.ipc_waits.specs.Rules.{IsSmall, end_by, timeout_by, failure_by, failure_code_by}
use Rattle.ipc_threads.proofs.PhaseFacts.{Says, no_sender_yet, passes_not, passes_where_live, phase_says}
use Rattle.ipc_threads.proofs.PhaseFacts.{receiver_is, since_receiving, since_sending, taken_is, taken_running, unended}
use Rattle.ipc_threads.specs.Standings.{IsStanding, partner_by, standing_of, phase_of}
use Rattle.ipc_threads.specs.declared.slot.Standing.{Standing}
use Rattle.ipc_threads.specs.declared.slot.Phase.{Phase}
use Rattle.ipc_threads.specs.declared.slot.Phase.TheVariants.{Sending, Passing, Receiving, Taking}

module _ (P : List Entry) (legal : Legal P) (n : ℕ) (open_ : is_over P n ≡ false) where
  pub end_law : end_by (is_live P (to_of P n)) (standing_of P n) ≡ end_of P n
  unfolding end_of standing_of
  end_law = go (phase_of P n) (phase_says P legal n open_)
    where
      none : (o : Option ℕ) → receiver_of P n ≡ o → ((to_of P n == nilthread) || is_sent P n) ≡ true → None ≡ option_and_then (λ m. if is_transferring P n m && (moved_bytes P n == message_size P n) then Some (Ended n m) else None) o
      none None e t = refl
      none (Some m) e t = rw (passes_not P legal n open_ t m e) refl

      go : (p : Phase) → Says P n p → end_by (is_live P (to_of P n)) (record (standing_of P n) { phase = p }) ≡ option_and_then (λ m. if is_transferring P n m && (moved_bytes P n == message_size P n) then Some (Ended n m) else None) (receiver_of P n)
      go Sending h = rw h.2 refl
      go (Passing m) h = rw (h.2, passes_where_live P legal n open_ m h.2 h.3) refl
      go Receiving h = none (receiver_of P n) refl h.3
      go (Taking k by bytes) h = none (receiver_of P n) refl h.3

  pub timeout_law : (moment : ℕ) → timeout_by moment (standing_of P n) ≡ due_of P moment n
  unfolding due_of is_due_at standing_of
  timeout_law moment = go (phase_of P n) (phase_says P legal n open_)
    where
      go : (p : Phase) → Says P n p → timeout_by moment (record (standing_of P n) { phase = p }) ≡ (if (is_sending P n && is_past moment (now (before_call P n)) (send_period_of P n)) || (is_receiving P n && is_past moment (receive_start P n) (receive_period_of P n)) then Some (Failed n (if is_sending P n then 0x2 else 0x3)) else None)
      go Sending h = rw (h.0, h.1, since_sending P legal n open_ h.3) (alone (is_past moment (now (before_call P n)) (send_period_of P n)))
        where
          alone : (b : Bool) → (if b then Some (Failed n 0x2) else None) ≡ (if (true && b) || (false && is_past moment (receive_start P n) (receive_period_of P n)) then Some (Failed n (if true then 0x2 else 0x3)) else None)
          alone true = refl
          alone false = refl
      go (Passing m) h = rw (h.0, h.1) refl
      go Receiving h = rw (h.0, h.1, since_receiving P legal n open_ h.3) refl
      go (Taking k by bytes) h = rw (h.0, h.1) refl

standing_to : (P : List Entry) (n : ℕ) → (standing_of P n).to ≡ to_of P n
unfolding standing_of
standing_to P n = refl

-- of a call as the slots have it
pub end_at : (P : List Entry) → Legal P → (s : Standing) → IsStanding P s → end_by (is_live P s.to) s ≡ end_of P s.number
end_at P legal s call = ap (λ x. end_by (is_live P x.to) x) call.is ∙ (to_there P s.number ∙ end_law P legal s.number call.opened)
  where
    to_there : (P : List Entry) (n : ℕ) → end_by (is_live P (standing_of P n).to) (standing_of P n) ≡ end_by (is_live P (to_of P n)) (standing_of P n)
    to_there P n = ap (λ t. end_by (is_live P t) (standing_of P n)) (standing_to P n)

pub timeout_at : (P : List Entry) → Legal P → (moment : ℕ) (s : Standing) → IsStanding P s → timeout_by moment s ≡ due_of P moment s.number
timeout_at P legal moment s call = ap (timeout_by moment) call.is ∙ timeout_law P legal s.number call.opened moment

-- A call whose partner is gone

module _ (P : List Entry) (legal : Legal P) (n : ℕ) (open_ : is_over P n ≡ false) where
  -- the caller of a call has ended where it is not live
  broken_is : (m : ℕ) → is_called P m ≡ true → has_broken P (caller_of P m) ≡ not (is_live P (caller_of P m))
  unfolding is_live
  broken_is m called = rw (caller_opened P legal m called) (twice (has_broken P (caller_of P m)))
    where
      twice : (b : Bool) → b ≡ not (true && not b)
      twice true = refl
      twice false = refl

  left_is : (k m other : ℕ) → list_any (ends k m) P ≡ false → is_called P other ≡ true → is_left P n k m other ≡ not (is_live P (caller_of P other))
  unfolding is_left
  left_is k m other running called = rw (open_, running, broken_is other called) (plain (is_live P (caller_of P other)))
    where
      plain : (b : Bool) → (not false && not false && not b) ≡ not b
      plain true = refl
      plain false = refl

  ended_left : (k m other : ℕ) → list_any (ends k m) P ≡ true → is_left P n k m other ≡ false
  unfolding is_left
  ended_left k m other over = rw over (never (is_over P n) (has_broken P (caller_of P other)))
    where
      never : (a b : Bool) → (not a && not true && b) ≡ false
      never a b = grind arith

  -- where its send phase is done or absent its receiver does not leave it
  no_left_sender : ((to_of P n == nilthread) || is_sent P n) ≡ true → left_sender_code P n ≡ None
  unfolding left_sender_code
  no_left_sender turned = go (receiver_of P n) refl
    where
      go : (o : Option ℕ) → receiver_of P n ≡ o → option_and_then (λ m. if is_left P n n m m then Some (0xe + 16 * moved_bytes P n) else None) o ≡ None
      go None e = refl
      go (Some m) e = rw (ended_left n m m (true_from_ne_false (list_any (ends n m) P) (λ running. passes_apart P legal n m e running turned))) refl

  none_taken_at : sender_of P n ≡ None → left_receiver_code P n ≡ None
  unfolding left_receiver_code
  none_taken_at none = rw none refl

  taken_at : (k : ℕ) → sender_of P n ≡ Some k → left_receiver_code P n ≡ (if not (is_live P (caller_of P k)) then Some (0xf + 16 * moved_bytes P k) else None)
  unfolding left_receiver_code
  taken_at k e =
      let called = (pair_called P legal k n (receiver_of_sender P legal k n e)).0 in
      rw (e, left_is k n k (taken_running P legal n open_ k e) called) refl

  code_of_phase : Phase → Option ℕ
  code_of_phase p = failure_code_by (is_live P (partner_by (record (standing_of P n) { phase = p }))) (record (standing_of P n) { phase = p })

  none_taken : is_sent P n ≡ false → (to_of P n == nilthread) ≡ false → left_receiver_code P n ≡ None
  unfolding left_receiver_code
  none_taken s t = rw (no_sender_yet P legal n open_ s t) refl

  code_law : (p : Phase) → Says P n p → ((k by bytes : ℕ) → p ≡ Taking k by bytes → (by ≡ caller_of P k) × (bytes ≡ moved_bytes P k)) → code_of_phase p ≡ partner_gone_code P n
  unfolding partner_gone_code is_send_partner_gone is_receive_partner_gone left_sender_code standing_of code_of_phase
  code_law Sending h told = rw (h.0, h.1, h.2, none_taken h.3 (sends_parts P n n h.0).named) (go (not (is_live P (to_of P n)) || (to_of P n == caller_of P n)) (Some 0x4))
    where
      go : (b : Bool) (x : Option ℕ) → (if b then x else None) ≡ (if true && b then x else None)
      go true x = refl
      go false x = refl
  code_law (Passing m) h told = rw (h.0, h.1, h.2, none_taken h.3 (paired_to P legal n m h.2), left_is n m m (unended P legal n open_ m h.3) (pair_called P legal n m h.2).1, receiver_is P legal n open_ m h.2) (go (not (is_live P (to_of P n))) (0xe + 16 * moved_bytes P n))
    where
      go : (b : Bool) (x : ℕ) → (if b then Some x else None) ≡ option_or (if b then Some x else None) None
      go true x = refl
      go false x = refl
  code_law Receiving h told = rw (h.0, h.1, no_left_sender h.3, none_taken_at h.2) refl
  code_law (Taking k by bytes) h told = let t = told k by bytes refl in rw (h.0, h.1, no_left_sender h.3, taken_at k h.2, t.0, t.1) refl

  pub partner_law : failure_by (is_live P (partner_by (standing_of P n))) (standing_of P n) ≡ partner_gone_of P n
  unfolding partner_gone_of standing_of code_of_phase
  partner_law = ap (option_map (λ code. Failed n code)) (code_law (phase_of P n) (phase_says P legal n open_) (taken_is P n))

pub partner_at : (P : List Entry) → Legal P → (s : Standing) → IsStanding P s → failure_by (is_live P (partner_by s)) s ≡ partner_gone_of P s.number
partner_at P legal s call = ap (λ x. failure_by (is_live P (partner_by x)) x) call.is ∙ partner_law P legal s.number call.opened

pub small_at : (P : List Entry) → Legal P → (s : Standing) → IsStanding P s → IsSmall s
unfolding standing_of
small_at P legal s call = rw call.is (record { moved = moves_fit P legal s.number; taken = go (phase_of P s.number) (taken_is P s.number) })
  where
    go : (p : Phase) → ((k by bytes : ℕ) → p ≡ Taking k by bytes → (by ≡ caller_of P k) × (bytes ≡ moved_bytes P k)) → taken p ≤ max_string_bytes
    go Sending h = omega arith
    go (Passing m) h = omega arith
    go Receiving h = omega arith
    go (Taking k by bytes) h = omega (arith, (h k by bytes refl).1, moves_fit P legal k)
