-- A receive phase rests: whom it lets in of the sends that wait.
use Rattle.std.proofs.lemmas.Bool.{false_from_ne_true}
use Rattle.std.proofs.Common.{All, ◌≡◌, refl, ℕ, eqb-true, eq-eqb, true, false, List}
use Rattle.ipc_history.specs.CallParts.{CallParts}
use Rattle.ipc_history.specs.Calls.{to_of}
use Rattle.ipc_history.specs.Phases.{is_sending}
use Rattle.ipc_history.specs.Matching.{shown_sender}
use Rattle.ipc_history.specs.Legal.{Legal}
use Rattle.ipc_history.specs.declared.entry.Entry.{Entry}
use Rattle.ipc_laws.specs.Exchange.{Rests, lets_in}
use Rattle.ipc_laws.proofs.Tests.{both, left, not_both, refuted, right}
use Rattle.ipc_waits.specs.Patience.{is_patient}
use Rattle.ipc_waits.proofs.PatienceLemmas.{has_no_time_is, has_time}
use Rattle.ipc_threads.specs.Slots.{Stands}
use Rattle.ipc_threads.specs.declared.kept.KeptSlots.{KeptSlots}
use Rattle.ipc_waits.specs.Keys.{Mirrors, sends_under}
use Rattle.ipc_waits.specs.Next.{IsOpenAt}
use Rattle.ipc_waits.specs.Queues.{under}
use Rattle.ipc_waits.specs.Resting.{lets_any_in, lets_wait_in}
use Rattle.ipc_waits.specs.declared.queue.Wait.{Wait}
use Rattle.ipc_waits.proofs.WaitFacts.{sender_is, sender_waits, under_is, wait_for, wait_of}
use Rattle.ipc_waits.proofs.WaitLists.{all_in, any_in, in_any}

module _ (P : List Entry) (slots : KeptSlots) (legal : Legal P) (stands : Stands P slots) (ws : List Wait) (mirrors : Mirrors sends_under slots.table ws) (t : ℕ) where
  pub those_open : All (IsOpenAt P) (under t ws)
  those_open = all_in (IsOpenAt P) (under t ws) (λ w there.
      let of = wait_of P slots legal stands sends_under ws mirrors w (under_is P slots legal stands sends_under ws mirrors t w there).1 in
      record { opened = of.opened; place = of.place })

  module _ (call : CallParts) where
    -- a send that waits for the thread is among them
    lets_it : (k : ℕ) → is_sending P k ≡ true → to_of P k ≡ t → lets_in P call.from t (shown_sender P k) ≡ true → lets_any_in P call.from t (under t ws) ≡ true
    lets_it k sends to lets = in_any (lets_wait_in P call.from t) (under t ws) (wait_for P k t) (sender_waits P slots legal stands ws mirrors k t (both _ _ sends (eq-eqb _ _ to))) lets

    pub rests_if : is_patient P call ≡ true → lets_any_in P call.from t (under t ws) ≡ false → Rests P t call
    rests_if patient none = record {
      partner = left _ _ patient;
      patient = has_time call.receive_period (refuted _ (right _ _ patient));
      alone = λ k sends to. false_from_ne_true _ (λ lets. not_both (lets_it k sends to lets) none);
    }

    pub rests_patient : Rests P t call → is_patient P call ≡ false → ⊥
    rests_patient rests not_so = not_both (both _ _ rests.partner (rw (has_no_time_is call.receive_period rests.patient) refl)) not_so

    pub rests_alone : Rests P t call → lets_any_in P call.from t (under t ws) ≡ true → ⊥
    rests_alone rests lets =
        let w = any_in (lets_wait_in P call.from t) (under t ws) lets in
        let sends = sender_is P slots legal stands ws mirrors t w.0 w.1 in
        not_both w.2 (rests.alone w.0.number (left (is_sending P w.0.number) _ sends) (eqb-true _ _ (right (is_sending P w.0.number) _ sends)))
