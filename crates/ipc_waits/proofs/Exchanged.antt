-- What may come of a call that has sent its message as soon as it was entered is found at the place
-- of its thread.
use Rattle.std.proofs.Common.{◌≡◌, refl, sym, ap, ◌∙◌, ℕ, ◌==◌, eqb-true, eq-eqb, Bool, true, false, List, Option, None}
use Rattle.ipc_words.specs.ThreadId.{number_of}
use Rattle.ipc_history.specs.CallParts.{CallParts}
use Rattle.ipc_history.specs.Calls.{numbers, caller_of}
use Rattle.ipc_history.specs.Entries.{names}
use Rattle.ipc_history.specs.Phases.{is_over}
use Rattle.ipc_history.specs.Legal.{Legal, Follows}
use Rattle.ipc_history.specs.declared.entry.Entry.{Entry}
use Rattle.ipc_history.specs.declared.entry.Entry.TheVariants.{Given, Written}
use Rattle.ipc_history.specs.declared.entry.Input.TheVariants.{Called}
use Rattle.ipc_history.specs.declared.entry.Output.{Output}
use Rattle.ipc_history.specs.declared.entry.Output.TheVariants.{Began, Turned, Ended, Overflowed, Aborted, Failed}
use Rattle.ipc_laws.specs.Exchange.{Exchanges, Reaches, exchanged}
use Rattle.ipc_laws.specs.Locality.{Possible}
use Rattle.ipc_laws.proofs.Exchanging.{exchanges}
use Rattle.ipc_laws.proofs.ExchangeParts.{exchange_caller}
use Rattle.ipc_laws.proofs.Giving.{names_open}
use Rattle.ipc_laws.proofs.Tests.{both}
use Rattle.ipc_threads.specs.Changes.{HaveExchanged}
use Rattle.ipc_threads.specs.Slots.{slot_at}
use Rattle.ipc_threads.specs.Steps.{standing_in}
use Rattle.ipc_threads.specs.Slot.{Slot}
use Rattle.ipc_threads.specs.declared.slot.Standing.{Standing}
use Rattle.ipc_waits.specs.Candidates.{FollowsPlace}
use Rattle.ipc_waits.specs.Finding.{CoversAt, finds, is_among}
use Rattle.ipc_waits.specs.Keys.{AreWaits, HasAt, HaveAt, IsSameElsewhere, Mirrors, SameElsewhere, is_of}
use Rattle.ipc_waits.specs.Queues.{is_in}
use Rattle.ipc_waits.specs.declared.queue.Wait.{Wait}
use Rattle.ipc_waits.specs.declared.queues.Waits.{Waits}
use Rattle.ipc_waits.proofs.Among.{open_among}
use Rattle.ipc_waits.proofs.Lists.{among_filtered}

module _ (P : List Entry) (n t r : ℕ) (call : CallParts) (legal : Legal P) (follows : Follows P (Given (Called n t call))) (reaches : Reaches P t call r) where
  abbrev S : List Entry
  S = exchanged P n t call r

  comes : Exchanges P n t call r
  comes = exchanges P n t call legal follows r reaches

  finds_it : (o : Output) → names n (Written o) ≡ true → Possible S o → finds n o ≡ true
  finds_it (Ended k m) named possible = absurd (comes.none_ends k m possible)
  finds_it (Began k m) named possible = named
  finds_it (Turned k thread) named possible = named
  finds_it (Overflowed k m offset) named possible = named
  finds_it (Aborted k m count) named possible = named
  finds_it (Failed k code) named possible = named

  pub exchange_covers : (places : List ℕ) → (is_over S n ≡ false → is_among places (number_of t) ≡ true) → CoversAt S places
  exchange_covers places there o possible =
      let named = comes.around o possible in
      let still = names_open S o possible n named in
      let here : is_among places (number_of (caller_of S n)) ≡ true = ap (λ u. is_among places (number_of u)) (exchange_caller P n t r call legal follows reaches) ∙ there still in
      (n, among_filtered (λ k. is_among places (number_of (caller_of S k))) (numbers S) n ∙ both _ _ here (open_among S n still), finds_it o named possible)

-- The queues in step with both slots

module _ (table : List Slot) (waits : Waits) (are : AreWaits table waits) where
  -- what they have of a place
  pub have_there : (k : ℕ) (call : Option Standing) → call ≡ standing_in (slot_at table k) → HaveAt waits k call
  have_there k call is = record {
    senders = λ w at. are.senders w ∙ rw (at, is) refl;
    watchers = λ w at. are.watchers w ∙ rw (at, is) refl;
    deadlines = λ w at. are.deadlines w ∙ rw (at, is) refl;
  }

other_place : (w place there : ℕ) → w ≡ place → (place == there) ≡ false → (w == there) ≡ false
other_place w place there at apart = ap (λ k. k == there) at ∙ apart

-- where a queue was changed at a place, and then at another one
module _ (key_of : Standing → Option ℕ) (old new : List Slot) (place there : ℕ) (changed : HaveExchanged old new place there) (first second third : List Wait) (mirrors : Mirrors key_of old first) (over : HasAt key_of second there None) (beside : IsSameElsewhere first second there) where
  has_none : HasAt key_of second place None
  has_none w at = beside w (other_place w.place place there at changed.apart) ∙ (mirrors w ∙ ap (λ c. is_of key_of c w) (ap (λ k. standing_in (slot_at old k)) at ∙ changed.free))

  mirrors_again : (after : Option Standing) → after ≡ standing_in (slot_at new place) → HasAt key_of third place after → IsSameElsewhere second third place → Mirrors key_of new third
  mirrors_again after is here elsewhere w = go (w.place == place) refl
    where
      past_both : (b : Bool) → (w.place == there) ≡ b → (w.place == place) ≡ false → is_in second w ≡ is_of key_of (standing_in (slot_at new w.place)) w
      past_both true e not_here = over w (eqb-true w.place there e) ∙ ap (λ c. is_of key_of c w) (sym (ap (λ k. standing_in (slot_at new k)) (eqb-true w.place there e) ∙ changed.over))
      past_both false e not_here = beside w e ∙ (mirrors w ∙ ap (λ s. is_of key_of (standing_in s) w) (sym (changed.elsewhere w.place not_here e)))

      go : (b : Bool) → (w.place == place) ≡ b → is_in third w ≡ is_of key_of (standing_in (slot_at new w.place)) w
      go true e = here w (eqb-true w.place place e) ∙ ap (λ c. is_of key_of c w) (is ∙ ap (λ k. standing_in (slot_at new k)) (sym (eqb-true w.place place e)))
      go false e = elsewhere w e ∙ past_both (w.place == there) refl e

module _ (old new : List Slot) (place there : ℕ) (changed : HaveExchanged old new place there) (first second : Waits) (are : AreWaits old first) (over : HaveAt second there None) (beside : SameElsewhere first second there) where
  pub have_none : HaveAt second place None
  have_none = record {
    senders = has_none _ old new place there changed first.senders second.senders second.senders are.senders over.senders beside.senders;
    watchers = has_none _ old new place there changed first.watchers second.watchers second.watchers are.watchers over.watchers beside.watchers;
    deadlines = has_none _ old new place there changed first.deadlines second.deadlines second.deadlines are.deadlines over.deadlines beside.deadlines;
  }

  pub waits_again : (third : Waits) (after : Option Standing) → after ≡ standing_in (slot_at new place) → HaveAt third place after → SameElsewhere second third place → AreWaits new third
  waits_again third after is here elsewhere = record {
    senders = mirrors_again _ old new place there changed first.senders second.senders third.senders are.senders over.senders beside.senders after is here.senders elsewhere.senders;
    watchers = mirrors_again _ old new place there changed first.watchers second.watchers third.watchers are.watchers over.watchers beside.watchers after is here.watchers elsewhere.watchers;
    deadlines = mirrors_again _ old new place there changed first.deadlines second.deadlines third.deadlines are.deadlines over.deadlines beside.deadlines after is here.deadlines elsewhere.deadlines;
  }

-- and the place is a candidate where its slot holds a call
pub comes_there : (old new : List ℕ) (place : ℕ) (is_open : Bool) → FollowsPlace old new place is_open → is_open ≡ true → is_among new place ≡ true
comes_there old new place is_open follows opened = follows place ∙ rw (eq-eqb place place refl) opened
