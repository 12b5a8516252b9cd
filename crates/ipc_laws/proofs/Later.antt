-- An At at which nothing is due changes nothing of it.
use Rattle.std.proofs.Common.{◌≡◌, refl, sym, ap, ap₂, ◌∙◌, ℕ, Bool, true, false, not, cond, List, [], ◌∷◌, ◌++◌, length, find, Some, ◌==◌, ◌&&◌}
use Rattle.ipc_history.specs.CallParts.{CallParts}
use Rattle.ipc_history.specs.Calls.{numbers, calls_made, is_called, caller_of}
use Rattle.ipc_history.specs.Phases.{is_over, open_call, is_sending}
use Rattle.ipc_history.specs.Matching.{accepts, shown_sender}
use Rattle.ipc_history.specs.Timing.{is_due_at}
use Rattle.ipc_history.specs.Legal.{Legal, Follows, is_admissible, is_free}
use Rattle.ipc_history.specs.declared.entry.Entry.{Entry}
use Rattle.ipc_history.specs.declared.entry.Entry.TheVariants.{Given}
use Rattle.ipc_history.specs.declared.entry.Input.TheVariants.{At, Called}
use Rattle.ipc_laws.proofs.Befores.{shown_kept}
use Rattle.ipc_laws.proofs.Clock.{at_stays_quiet}
use Rattle.ipc_laws.proofs.Growth.{open_is_called}
use Rattle.ipc_laws.proofs.IdleChanges.{idle_at, same_caller, same_from_specifier, same_live, same_over, same_receiving, same_sending, same_space, same_to}
use Rattle.ipc_laws.proofs.Numbering.{numbers_push}
use Rattle.ipc_laws.proofs.PhaseParts.{sends_parts}
use Rattle.ipc_laws.proofs.Settling.{legal_push}
use Rattle.ipc_laws.specs.Exchange.{ExchangesLater, Reaches, Rests, lets_in}
use Rattle.ipc_laws.proofs.Exchanging.{exchanges}

-- tests that agree find the same
find_agrees : (p q : ℕ → Bool) (xs : List ℕ) → ((x : ℕ) → p x ≡ q x) → find p xs ≡ find q xs
find_agrees p q [] h = refl
find_agrees p q (x ∷ xs) h = ap₂ (λ b o. cond b (Some x) o) (h x) (find_agrees p q xs h)

module _ (P : List Entry) (moment n t : ℕ) (call : CallParts) (r : ℕ) where
  abbrev A : List Entry
  A = P ++ Given (At moment) ∷ []

  same_numbers : numbers A ≡ numbers P
  same_numbers = numbers_push P (Given (At moment)) refl

  same_calls_made : calls_made A ≡ calls_made P
  unfolding calls_made
  same_calls_made = ap length same_numbers

  same_open_call : open_call A t ≡ open_call P t
  unfolding open_call
  same_open_call = ap (find (λ k. (caller_of A k == t) && not (is_over A k))) same_numbers ∙ find_agrees _ _ (numbers P) (λ k. ap₂ (λ c o. (c == t) && not o) (same_caller P (At moment) (idle_at moment) k) (same_over P (At moment) (idle_at moment) k))

  same_free : is_free A t ≡ is_free P t
  unfolding is_free
  same_free = rw (same_live P (At moment) (idle_at moment) t, same_open_call) refl

  same_admissible : is_admissible A (Called n t call) ≡ is_admissible P (Called n t call)
  unfolding is_admissible
  same_admissible = rw (same_free, same_calls_made) refl

  same_accepts : (x : ℕ) → accepts A r x ≡ accepts P r x
  unfolding accepts
  same_accepts x = rw (same_from_specifier P (At moment) (idle_at moment) r, same_space P (At moment) (idle_at moment) x, same_caller P (At moment) (idle_at moment) r, same_space P (At moment) (idle_at moment) (caller_of P r)) refl

  reaches_later : Reaches P t call r → Reaches A t call r
  reaches_later reaches = record {
    sends = reaches.sends;
    receives = same_receiving P (At moment) (idle_at moment) r ∙ reaches.receives;
    to = reaches.to ∙ sym (same_caller P (At moment) (idle_at moment) r);
    accepted = same_accepts t ∙ reaches.accepted;
    itself = reaches.itself;
    words_alone = reaches.words_alone;
  }

  same_lets_in : (x : ℕ) → lets_in A call.from t x ≡ lets_in P call.from t x
  same_lets_in x = rw (same_space P (At moment) (idle_at moment) x, same_space P (At moment) (idle_at moment) t) refl

  rests_later : Rests P t call → Rests A t call
  rests_later rests = record {
    partner = rw (same_live P (At moment) (idle_at moment) call.from) rests.partner;
    patient = rests.patient;
    alone = λ k sends to. (
        let was : is_sending P k ≡ true = sym (same_sending P (At moment) (idle_at moment) k) ∙ sends in
        let known = open_is_called P k (sends_parts P k k was).opened in
        ap (lets_in A call.from t) (shown_kept P (Given (At moment) ∷ []) k known) ∙ (same_lets_in (shown_sender P k) ∙ rests.alone k was (sym (same_to P (At moment) (idle_at moment) k) ∙ to)));
  }

  pub exchanges_later : Legal P → Follows P (Given (At moment)) → ((k : ℕ) → is_called P k ≡ true → is_due_at P moment k ≡ false) → is_admissible P (Called n t call) ≡ true → Reaches P t call r → ExchangesLater P moment n t call r
  unfolding Follows
  exchanges_later legal follows undue admissible reaches = record {
    reaches = reaches_later reaches;
    exchange = exchanges A n t call (legal_push P (Given (At moment)) legal follows) (at_stays_quiet P moment follows.0 undue, same_admissible ∙ admissible) r (reaches_later reaches);
    rests = rests_later;
  }
