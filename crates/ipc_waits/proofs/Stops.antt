-- What ExchangeRegisters stops, and which phase it answers, by what is kept of a call.
use Rattle.std.proofs.lemmas.Bool.{true_from_ne_false}
use Rattle.std.proofs.Common.{◌≡◌, refl, sym, ap, ◌∙◌, ℕ, ◌==◌, ◌||◌, ◌&&◌, not, eq-eqb, if◌then◌else◌, Bool, true, false, List, Option, Some, None, option_map, option_and_then}
use Rattle.std.specs.List.{list_any}
use Rattle.std.specs.Option.{option_map_or, option_or}
use Rattle.ipc_words.specs.ThreadId.{nilthread}
use Rattle.ipc_words.specs.Control.{stops_receive, stops_send}
use Rattle.ipc_history.specs.Entries.{ends}
use Rattle.ipc_history.specs.Calls.{caller_of, to_of}
use Rattle.ipc_history.specs.Threads.{is_live}
use Rattle.ipc_history.specs.Phases.{is_sent, is_over, receiver_of, sender_of, is_sending, is_receiving, is_transferring, moved_bytes, open_call}
use Rattle.ipc_history.specs.NextOutput.{abort_send, abort_receive, stop_send, stop_receive, stop}
use Rattle.ipc_history.specs.Legal.{Legal}
use Rattle.ipc_history.specs.declared.entry.Entry.{Entry}
use Rattle.ipc_history.specs.declared.entry.Output.{Output}
use Rattle.ipc_history.specs.declared.entry.Output.TheVariants.{Aborted, Failed}
use Rattle.ipc_laws.proofs.Endings.{live_unbroken}
use Rattle.ipc_laws.proofs.Moving.{paired_to}
use Rattle.ipc_laws.proofs.OpenCalls.{caller_lives}
use Rattle.ipc_laws.proofs.Pairing.{receiver_of_sender}
use Rattle.ipc_laws.proofs.PhaseParts.{sends_parts}
use Rattle.ipc_laws.proofs.Tests.{not_both}
use Rattle.ipc_laws.proofs.Together.{sender_open}
use Rattle.ipc_history.specs.ExchangeRegisters.{in_receive_phase, in_send_phase}
use Rattle.ipc_waits.specs.Rules.{abort_by, stop_by, in_send_by, in_receive_by}
use Rattle.ipc_threads.specs.Standings.{IsStanding, partner_by, standing_of, phase_of}
use Rattle.ipc_threads.specs.declared.slot.Phase.{Phase}
use Rattle.ipc_threads.specs.declared.slot.Phase.TheVariants.{Sending, Passing, Receiving, Taking}
use Rattle.ipc_threads.specs.declared.slot.Standing.{Standing}
use Rattle.ipc_threads.proofs.PhaseFacts.{Says, no_sender_yet, passes_not, passes_where_live, phase_says, taken_is, taken_running}
use Rattle.ipc_threads.proofs.StandingSteps.{own}

-- an option whose value is told only where a test holds
told_if : {X Y : Type 0} (o : Option X) (test : X → Bool) (f : X → Y) → ((x : X) → o ≡ Some x → test x ≡ false) → option_and_then (λ x. if test x then Some (f x) else None) o ≡ None
told_if None test f h = refl
told_if (Some x) test f h = rw (h x refl) refl

-- S stops a send, R a receive
sends_it : (s r : Bool) (x : Option Output) → (if s then x else None) ≡ option_or (if s then x else None) (if r then None else None)
sends_it true true None = refl
sends_it true true (Some x) = refl
sends_it true false None = refl
sends_it true false (Some x) = refl
sends_it false true x = refl
sends_it false false x = refl

receives_it : (s r : Bool) (x : Option Output) → (if r then x else None) ≡ option_or (if s then None else None) (if r then x else None)
receives_it true r x = refl
receives_it false r x = refl

where_live : (s l : Bool) (x : Output) → (if s && l then Some x else None) ≡ (if s then (if l then Some x else None) else None)
where_live true l x = refl
where_live false l x = refl

module _ (P : List Entry) (legal : Legal P) (n : ℕ) (open_ : is_over P n ≡ false) where
  -- the transfer that it takes goes on while the sender lives
  over_sender : (k : ℕ) → receiver_of P k ≡ Some n → list_any (ends k n) P ≡ false → is_over P k ≡ not (is_live P (caller_of P k))
  over_sender k pair running = go (is_live P (caller_of P k)) refl
    where
      go : (b : Bool) → is_live P (caller_of P k) ≡ b → is_over P k ≡ not b
      go true l = sender_open P legal k n pair running open_ (live_unbroken P (caller_of P k) l)
      go false d = true_from_ne_false (is_over P k) (λ o. not_both (caller_lives P legal k o) d)

  takes_where_live : (k : ℕ) → sender_of P n ≡ Some k → is_transferring P k n ≡ is_live P (caller_of P k)
  unfolding is_transferring
  takes_where_live k e =
      let pair = receiver_of_sender P legal k n e in
      let running = taken_running P legal n open_ k e in
      rw (pair, running, open_, over_sender k pair running, eq-eqb n n refl) (twice (is_live P (caller_of P k)))
    where
      twice : (b : Bool) → (true && not false && not (not b) && not false) ≡ b
      twice true = refl
      twice false = refl

  -- the abort of its send, and of its receive
  abort_none : ((to_of P n == nilthread) || is_sent P n) ≡ true → abort_send P n ≡ None
  unfolding abort_send
  abort_none turned = told_if (receiver_of P n) (is_transferring P n) (λ m. Aborted n m (moved_bytes P n)) (λ m e. passes_not P legal n open_ turned m e)

  abort_unpaired : receiver_of P n ≡ None → abort_send P n ≡ None
  unfolding abort_send
  abort_unpaired e = rw e refl

  abort_at : (m : ℕ) → receiver_of P n ≡ Some m → is_sent P n ≡ false → abort_send P n ≡ (if is_live P (to_of P n) then Some (Aborted n m (moved_bytes P n)) else None)
  unfolding abort_send
  abort_at m e s = rw (e, passes_where_live P legal n open_ m e s) refl

  take_none : sender_of P n ≡ None → abort_receive P n ≡ None
  unfolding abort_receive
  take_none e = rw e refl

  take_at : (k : ℕ) → sender_of P n ≡ Some k → abort_receive P n ≡ (if is_live P (caller_of P k) then Some (Aborted k n (moved_bytes P k)) else None)
  unfolding abort_receive
  take_at k e = rw (e, takes_where_live k e) refl

  with_phase : Phase → Standing
  with_phase p = record (standing_of P n) { phase = p }

  abbrev Told : Phase → Type 0
  Told p = (k by bytes : ℕ) → p ≡ Taking k by bytes → (by ≡ caller_of P k) × (bytes ≡ moved_bytes P k)

  abort_of_phase : (p : Phase) → Says P n p → Told p → abort_by (is_live P (partner_by (record (standing_of P n) { phase = p }))) (record (standing_of P n) { phase = p }) ≡ abort_send P n
  unfolding standing_of
  abort_of_phase Sending h told = sym (abort_unpaired h.2)
  abort_of_phase (Passing m) h told = sym (abort_at m h.2 h.3)
  abort_of_phase Receiving h told = sym (abort_none h.3)
  abort_of_phase (Taking k by bytes) h told = sym (abort_none h.3)

  stop_of_phase : (S R : Bool) (p : Phase) → Says P n p → Told p → stop_by (is_live P (partner_by (record (standing_of P n) { phase = p }))) S R (record (standing_of P n) { phase = p }) ≡ option_or (if S then stop_send P n else None) (if R then stop_receive P n else None)
  unfolding standing_of stop_send stop_receive
  stop_of_phase S R Sending h told = rw (h.0, h.1, take_none (no_sender_yet P legal n open_ h.3 (sends_parts P n n h.0).named)) (sends_it S R (Some (Failed n 0x6)))
  stop_of_phase S R (Passing m) h told = rw (h.0, h.1, take_none (no_sender_yet P legal n open_ h.3 (paired_to P legal n m h.2)), abort_at m h.2 h.3) (where_live S (is_live P (to_of P n)) (Aborted n m (moved_bytes P n)) ∙ sends_it S R (if is_live P (to_of P n) then Some (Aborted n m (moved_bytes P n)) else None))
  stop_of_phase S R Receiving h told = rw (h.0, h.1, abort_none h.3) (receives_it S R (Some (Failed n 0x7)))
  stop_of_phase S R (Taking k by bytes) h told = let t = told k by bytes refl in rw (h.0, h.1, abort_none h.3, take_at k h.2, t.0, t.1) (where_live R (is_live P (caller_of P k)) (Aborted k n (moved_bytes P k)) ∙ receives_it S R (if is_live P (caller_of P k) then Some (Aborted k n (moved_bytes P k)) else None))

  send_of_phase : (p : Phase) → Says P n p → Told p → in_send_by (is_live P (partner_by (record (standing_of P n) { phase = p }))) (record (standing_of P n) { phase = p }) ≡ (is_sending P n || option_map_or (is_transferring P n) (receiver_of P n) false)
  unfolding standing_of
  send_of_phase Sending h told = rw h.0 refl
  send_of_phase (Passing m) h told = rw (h.0, h.2, passes_where_live P legal n open_ m h.2 h.3) refl
  send_of_phase Receiving h told = rw h.0 (quiet (receiver_of P n) refl h.3)
    where
      quiet : (o : Option ℕ) → receiver_of P n ≡ o → ((to_of P n == nilthread) || is_sent P n) ≡ true → false ≡ option_map_or (is_transferring P n) o false
      quiet None e t = refl
      quiet (Some m) e t = sym (passes_not P legal n open_ t m e)
  send_of_phase (Taking k by bytes) h told = rw h.0 (quiet (receiver_of P n) refl h.3)
    where
      quiet : (o : Option ℕ) → receiver_of P n ≡ o → ((to_of P n == nilthread) || is_sent P n) ≡ true → false ≡ option_map_or (is_transferring P n) o false
      quiet None e t = refl
      quiet (Some m) e t = sym (passes_not P legal n open_ t m e)

  receive_of_phase : (p : Phase) → Says P n p → Told p → in_receive_by (is_live P (partner_by (record (standing_of P n) { phase = p }))) (record (standing_of P n) { phase = p }) ≡ (is_receiving P n || option_map_or (λ k. is_transferring P k n) (sender_of P n) false)
  unfolding standing_of
  receive_of_phase Sending h told = rw (h.1, no_sender_yet P legal n open_ h.3 (sends_parts P n n h.0).named) refl
  receive_of_phase (Passing m) h told = rw (h.1, no_sender_yet P legal n open_ h.3 (paired_to P legal n m h.2)) refl
  receive_of_phase Receiving h told = rw h.1 refl
  receive_of_phase (Taking k by bytes) h told = let t = told k by bytes refl in rw (h.1, h.2, takes_where_live k h.2, t.0) refl

  pub abort_law : abort_by (is_live P (partner_by (standing_of P n))) (standing_of P n) ≡ abort_send P n
  unfolding standing_of
  abort_law = abort_of_phase (phase_of P n) (phase_says P legal n open_) (taken_is P n)

  pub stop_law : (S R : Bool) → stop_by (is_live P (partner_by (standing_of P n))) S R (standing_of P n) ≡ option_or (if S then stop_send P n else None) (if R then stop_receive P n else None)
  unfolding standing_of
  stop_law S R = stop_of_phase S R (phase_of P n) (phase_says P legal n open_) (taken_is P n)

  pub send_law : in_send_by (is_live P (partner_by (standing_of P n))) (standing_of P n) ≡ (is_sending P n || option_map_or (is_transferring P n) (receiver_of P n) false)
  unfolding standing_of
  send_law = send_of_phase (phase_of P n) (phase_says P legal n open_) (taken_is P n)

  pub receive_law : in_receive_by (is_live P (partner_by (standing_of P n))) (standing_of P n) ≡ (is_receiving P n || option_map_or (λ k. is_transferring P k n) (sender_of P n) false)
  unfolding standing_of
  receive_law = receive_of_phase (phase_of P n) (phase_says P legal n open_) (taken_is P n)

-- of a call as the slots have it
pub abort_kept : (P : List Entry) → Legal P → (s : Standing) → IsStanding P s → abort_by (is_live P (partner_by s)) s ≡ abort_send P s.number
abort_kept P legal s call = ap (λ x. abort_by (is_live P (partner_by x)) x) call.is ∙ abort_law P legal s.number call.opened

pub abort_told : (P : List Entry) → Legal P → (s : Standing) → IsStanding P s → abort_by (is_live P s.to) s ≡ abort_send P s.number
abort_told P legal s call = same s ∙ abort_kept P legal s call
  where
    same : (s : Standing) → abort_by (is_live P s.to) s ≡ abort_by (is_live P (partner_by s)) s
    same s = of s s.phase refl
      where
        of : (s : Standing) (p : Phase) → s.phase ≡ p → abort_by (is_live P s.to) s ≡ abort_by (is_live P (partner_by s)) s
        of s Sending e = rw e refl
        of s (Passing m) e = rw e refl
        of s Receiving e = rw e refl
        of s (Taking k by bytes) e = rw e refl

pub stop_kept : (P : List Entry) → Legal P → (control : ℕ) (s : Standing) → IsStanding P s → stop_by (is_live P (partner_by s)) (stops_send control) (stops_receive control) s ≡ stop P control s.number
unfolding stop
stop_kept P legal control s call = ap (λ x. stop_by (is_live P (partner_by x)) (stops_send control) (stops_receive control) x) call.is ∙ stop_law P legal s.number call.opened (stops_send control) (stops_receive control)

pub stop_told : (P : List Entry) → Legal P → (control : ℕ) (s : Standing) → IsStanding P s → (b S R : Bool) → b ≡ is_live P (partner_by s) → S ≡ stops_send control → R ≡ stops_receive control → stop_by b S R s ≡ stop P control s.number
stop_told P legal control s call b S R live sends receives = rw (live, sends, receives) (stop_kept P legal control s call)

-- and of a thread's open call
abbrev looked : List Entry → (Standing → Bool) → Option Standing → Bool
looked P test o = option_map_or test o false

pub in_send_is : (P : List Entry) → Legal P → (t : ℕ) → option_map_or (λ s. in_send_by (is_live P (partner_by s)) s) (option_map (standing_of P) (open_call P t)) false ≡ in_send_phase P t
unfolding in_send_phase
in_send_is P legal t = go (open_call P t) refl
  where
    go : (o : Option ℕ) → open_call P t ≡ o → option_map_or (λ s. in_send_by (is_live P (partner_by s)) s) (option_map (standing_of P) o) false ≡ option_map_or (λ c. is_sending P c || option_map_or (is_transferring P c) (receiver_of P c) false) o false
    go None e = refl
    go (Some n) e = send_law P legal n (own P t n e).0

pub in_receive_is : (P : List Entry) → Legal P → (t : ℕ) → option_map_or (λ s. in_receive_by (is_live P (partner_by s)) s) (option_map (standing_of P) (open_call P t)) false ≡ in_receive_phase P t
unfolding in_receive_phase
in_receive_is P legal t = go (open_call P t) refl
  where
    go : (o : Option ℕ) → open_call P t ≡ o → option_map_or (λ s. in_receive_by (is_live P (partner_by s)) s) (option_map (standing_of P) o) false ≡ option_map_or (λ c. is_receiving P c || option_map_or (λ n. is_transferring P n c) (sender_of P c) false) o false
    go None e = refl
    go (Some n) e = receive_law P legal n (own P t n e).0
