-- What an input leaves as it was. Each fact says of a call that was there: what holds of it behind
-- the input held before.
use Rattle.std.proofs.lemmas.Bool.{or_cases, or_left, or_right}
use Rattle.std.proofs.Common.{◌≡◌, refl, sym, ap, ◌∙◌, ℕ, Bool, true, false, ◌||◌, ◌&&◌, ◌==◌, eq-eqb, List, [], ◌∷◌, ◌++◌, None, unwrap_or, inl, inr}
use Rattle.std.specs.List.{list_any}
use Rattle.ipc_words.specs.ThreadId.{nilthread}
use Rattle.ipc_history.specs.Entries.{moment_in, breaks, ends}
use Rattle.ipc_history.specs.Calls.{is_called, caller_of, to_of, send_period_of, receive_period_of}
use Rattle.ipc_history.specs.Threads.{now, has_broken}
use Rattle.ipc_history.specs.Phases.{is_sent, receiver_of, sender_of, is_over, is_sending, is_transferring, is_receiving}
use Rattle.ipc_history.specs.Matching.{shown_sender, from_specifier, accepts, matches}
use Rattle.ipc_history.specs.Timing.{is_due, is_due_at, is_past}
use Rattle.ipc_history.specs.NextOutput.{is_send_partner_gone, is_receive_partner_gone, is_left}
use Rattle.ipc_history.specs.Legal.{Legal}
use Rattle.ipc_history.specs.declared.entry.Entry.{Entry}
use Rattle.ipc_history.specs.declared.entry.Entry.TheVariants.{Given}
use Rattle.ipc_history.specs.declared.entry.Input.{Input}
use Rattle.ipc_laws.proofs.Befores.{before_call_kept, receive_start_kept, shown_kept}
use Rattle.ipc_laws.proofs.Changing.{any_push, changes}
use Rattle.ipc_laws.proofs.Growth.{call_at_kept, caller_of_kept, from_of_kept, to_of_kept, was_open}
use Rattle.ipc_laws.proofs.Moving.{transferring_whole}
use Rattle.ipc_laws.proofs.OpenCalls.{caller_opened}
use Rattle.ipc_laws.proofs.PhaseParts.{Passes, Receives, Sends, left_open, left_running, meets_parts, passes_parts, receives_parts, sends_parts}
use Rattle.ipc_laws.proofs.Tests.{both, left, right}
use Rattle.ipc_laws.proofs.ThreadChanges.{or_false}
use Rattle.ipc_laws.proofs.WordLemmas.{option_or_none}
use Rattle.ipc_laws.proofs.EntryLeaves.{had_broken, receiver_is_gone, sender_is_gone, shown_opened, space_kept}

-- A phase, of its parts

module _ (P : List Entry) (n : ℕ) where
  sends_whole : Sends P n → is_sending P n ≡ true
  unfolding is_sending
  sends_whole s = rw (s.named, s.unpaired, s.opened) refl

  receives_whole : Receives P n → is_receiving P n ≡ true
  unfolding is_receiving
  receives_whole r = rw (r.named, r.turned, r.unpaired, r.opened) refl

due_held : (s s' a r r' b b' : Bool) → (s ≡ true → s' ≡ true) → (r ≡ true → r' ≡ true) → (r ≡ true → b ≡ b') → ((s && a) || (r && b)) ≡ true → ((s' && a) || (r' && b')) ≡ true
due_held s s' a r r' b b' p q e h = elim (or_cases (s && a) (r && b) h) [
  | inl x ↦ or_left _ _ (both s' a (p (left s a x)) (right s a x))
  | inr y ↦ or_right _ _ (both r' b' (q (left r b y)) (sym (e (left r b y)) ∙ right r b y))
]

module _ (P : List Entry) (input : Input) where
  abbrev pub Q : List Entry
  Q = P ++ Given input ∷ []

  -- No input begins or ends a transfer

  pub same_receiver : (n : ℕ) → receiver_of Q n ≡ receiver_of P n
  same_receiver n = (changes P (Given input)).receiver n ∙ option_or_none _

  pub same_sender : (n : ℕ) → sender_of Q n ≡ sender_of P n
  same_sender n = (changes P (Given input)).sender n ∙ option_or_none _

  pub same_sent : (n : ℕ) → is_sent Q n ≡ is_sent P n
  same_sent n = (changes P (Given input)).sent n ∙ or_false _

  pub same_ends : (n m : ℕ) → list_any (ends n m) Q ≡ list_any (ends n m) P
  same_ends n m = any_push (ends n m) P (Given input) ∙ or_false _

  -- Phases of a call that was there

  module _ (n : ℕ) (c : is_called P n ≡ true) where
    pub same_wanted : from_specifier Q n ≡ from_specifier P n
    same_wanted = (changes P (Given input)).wanted n c

    pub opened_before : is_over Q n ≡ false → is_over P n ≡ false
    opened_before o = was_open P (Given input ∷ []) n c o

    sent_before : Sends Q n → Sends P n
    sent_before s = record {
      named = ap (λ t. t == nilthread) (sym (to_of_kept P (Given input ∷ []) n c)) ∙ s.named;
      unpaired = sym (same_receiver n) ∙ s.unpaired;
      opened = opened_before s.opened;
    }

    received_before : Receives Q n → Receives P n
    received_before r = record {
      named = ap (λ t. t == nilthread) (sym (from_of_kept P (Given input ∷ []) n c)) ∙ r.named;
      turned = rw (to_of_kept P (Given input ∷ []) n c, same_sent n) at r.turned;
      unpaired = sym (same_sender n) ∙ r.unpaired;
      opened = opened_before r.opened;
    }

    pub was_sending : is_sending Q n ≡ true → is_sending P n ≡ true
    was_sending h = sends_whole P n (sent_before (sends_parts Q n n h))

    pub was_receiving : is_receiving Q n ≡ true → is_receiving P n ≡ true
    was_receiving h = receives_whole P n (received_before (receives_parts Q n n h))

    -- a phase that waits is due when it was
    was_due_at : (moment : ℕ) → is_due_at Q moment n ≡ true → is_due_at P moment n ≡ true
    unfolding is_due_at send_period_of receive_period_of
    was_due_at moment h = rw (before_call_kept P (Given input ∷ []) n c, call_at_kept P (Given input ∷ []) n c) at (due_held _ _ _ _ _ _ _ was_sending was_receiving (λ r. ap (λ start. is_past moment start (receive_period_of Q n)) (receive_start_kept P (Given input ∷ []) n c (received_before (receives_parts Q n n r)).turned)) h)

    pub was_due : moment_in (Given input) ≡ None → is_due Q n ≡ true → is_due P n ≡ true
    unfolding is_due
    was_due still h = was_due_at (now P) (rw (same_now) at h)
      where
        same_now : now Q ≡ now P
        same_now = (changes P (Given input)).moment ∙ ap (λ o. unwrap_or o (now P)) still

  -- Two calls that were there

  module _ (n m : ℕ) (cn : is_called P n ≡ true) (cm : is_called P m ≡ true) where
    pub passed_before : Passes Q n m → Passes P n m
    passed_before p = record {
      pair = sym (same_receiver n) ∙ p.pair;
      running = sym (same_ends n m) ∙ p.running;
      opened = opened_before n cn p.opened;
      opened_too = opened_before m cm p.opened_too;
    }

    pub was_transferring : is_transferring Q n m ≡ true → is_transferring P n m ≡ true
    was_transferring h = transferring_whole P n m (passed_before (passes_parts Q n m h))

    pub was_left : (k j : ℕ) → breaks (caller_of P m) (Given input) ≡ false → is_left Q n k j m ≡ true → is_left P n k j m ≡ true
    unfolding is_left
    was_left k j lives h =
        let broke = had_broken P (Given input) (caller_of P m) lives (ap (has_broken Q) (sym (caller_of_kept P (Given input ∷ []) m cm)) ∙ right _ _ h) in
        rw (opened_before n cn (left_open Q n k j m h), sym (same_ends k j) ∙ left_running Q n k j m h, broke) refl

    pub was_matched : Legal P → matches Q n m ≡ true → matches P n m ≡ true
    unfolding matches accepts
    was_matched l h =
        let p = meets_parts Q n m h in
        let e = Given input ∷ [] in
        let same : to_of P n ≡ caller_of P m = sym (to_of_kept P e n cn) ∙ (p.same ∙ caller_of_kept P e m cm) in
        let other : (to_of P n == caller_of P n) ≡ false = rw (to_of_kept P e n cn, caller_of_kept P e n cn) at p.other in
        let wanted : accepts P m (shown_sender P n) ≡ true = rw (shown_kept P e n cn, same_wanted m cm, caller_of_kept P e m cm, space_kept P (Given input) (shown_sender P n) (shown_opened P l n cn), space_kept P (Given input) (caller_of P m) (caller_opened P l m cm)) at p.wanted in
        rw (sends_whole P n (sent_before n cn p.sends), receives_whole P m (received_before m cm p.receives), eq-eqb (to_of P n) (caller_of P m) same, other, wanted) refl

  -- A call that was there keeps its partner where that doesn't end

  module _ (n : ℕ) (c : is_called P n ≡ true) where
    pub lost_receiver : breaks (to_of P n) (Given input) ≡ false → is_send_partner_gone Q n ≡ true → is_send_partner_gone P n ≡ true
    unfolding is_send_partner_gone
    lost_receiver lives h = receiver_is_gone P (Given input) n c lives (was_sending n c (left _ _ h)) h

    pub lost_sender : breaks (from_specifier P n) (Given input) ≡ false → is_receive_partner_gone Q n ≡ true → is_receive_partner_gone P n ≡ true
    unfolding is_receive_partner_gone
    lost_sender lives h = sender_is_gone P (Given input) n (same_wanted n c) lives (was_receiving n c (left _ _ (left _ _ (left _ _ h)))) h
