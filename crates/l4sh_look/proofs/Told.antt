-- A walk over a history that counts what its entries add.
use Rattle.std.proofs.Common.{◌≡◌, sym, ap, ◌∙◌, subst, ℕ, ◌+◌, ◌<◌, ◌≤◌, List, [], ◌∷◌, ◌++◌, length, take, get_or, Bool, false, Option, append_assoc, append-nil}
use Rattle.std.proofs.lemmas.List.{take_all, take_more}
use Rattle.ipc_history.specs.Legal.{Follows, Legal}
use Rattle.ipc_history.specs.declared.entry.Entry.{Entry}
use Rattle.ipc_laws.proofs.Histories.{follows_last, legal_front}
use Rattle.ipc_threads.specs.PastSlots.{PastSlots}
use Rattle.ipc_threads.proofs.Walks.{IsWalked}
use Rattle.l4sh_look.specs.Events.{event_in, events_after, events_in, one}
use Rattle.l4sh_look.specs.Tallies.{IsCounted}
use Rattle.l4sh_look.specs.Walked.{IsCounting, IsTold}
use Rattle.l4sh_look.specs.declared.counts.Counts.{Counts}
use Rattle.l4sh_look.specs.declared.event.Event.{Event}

-- the entries before a place, and the counts of what they add
pub record IsToldTo (H : List Entry) (i : ℕ) (past : List Entry) (slots : PastSlots) (counts : Counts) : Type 0 where
  pub walked : IsWalked H i past slots
  pub counted : IsCounted (events_in (take i H)) counts

-- one entry more behind P
more : (P rest : List Entry) (e : Entry) → events_after P (rest ++ e ∷ []) ≡ events_after P rest ++ one (event_in (P ++ rest) e)
unfolding events_after
more P [] e = append-nil (one (event_in P e)) ∙ ap (λ Q. one (event_in Q e)) (sym (append-nil P))
more P (f ∷ rest) e =
    ap (λ l. one (event_in P f) ++ l)
    (more (P ++ f ∷ []) rest e ∙ ap (λ Q. events_after (P ++ f ∷ []) rest ++ one (event_in Q e)) (append_assoc P (f ∷ []) rest))
    ∙ sym (append_assoc (one (event_in P f)) (events_after (P ++ f ∷ []) rest) (one (event_in (P ++ f ∷ rest) e)))

pub events_more : (H : List Entry) (e : Entry) → events_in (H ++ e ∷ []) ≡ events_in H ++ one (event_in H e)
events_more H e = more [] H e

pub no_events : (counts : Counts) → IsCounted [] counts → IsCounted (events_in []) counts
unfolding events_after
no_events counts none = none

pub told_start : (H : List Entry) (counts : Counts) → IsCounted [] counts → IsCounted (events_in (take 0 H)) counts
unfolding events_after
told_start H counts none = none

pub told_more : (H before : List Entry) (i : ℕ) (e : Entry) (event : Option Event) (counts : Counts) → i < length H → e ≡ get_or H i e
    → before ≡ take i H → event ≡ event_in before e → IsCounted (events_in (take i H) ++ one event) counts → IsCounted (events_in (take (i + 1) H)) counts
told_more H before i e event counts within at same is counted =
    subst (λ events. IsCounted events counts)
    (ap (λ o. events_in (take i H) ++ one o) (is ∙ ap (λ P. event_in P e) same)
    ∙ sym (events_more (take i H) e) ∙ ap (λ x. events_in (take i H ++ x ∷ [])) at ∙ ap events_in (sym (take_more H i e within)))
    counted

pub told_whole : (H past : List Entry) (i : ℕ) (slots : PastSlots) (counts : Counts) → length H ≤ i → IsToldTo H i past slots counts → IsTold H counts
told_whole H past i slots counts all to = record {
  legal = rw (take_all i H all) at to.walked.legal;
  counted = subst (λ P. IsCounted (events_in P) counts) (take_all i H all) to.counted;
}

-- an entry more that is given
pub counting_more : (H K : List Entry) (e : Entry) (event : Option Event) (old new : Counts) (was lost : Bool) → K ≡ H ++ e ∷ []
    → (Legal H → Follows H e → event ≡ event_in H e) → IsCounting H old was
    → (lost ≡ false → (was ≡ false) × ((events : List Event) → IsCounted events old → IsCounted (events ++ one event) new))
    → IsCounting K new lost
counting_more H K e event old new was lost grown is before step = record {
  counted = λ kept legal.
      let whole = subst Legal grown legal in
      let front = legal_front H (e ∷ []) whole in
      let told = step kept in
      subst (λ l. IsCounted (events_in l) new) (sym grown)
      (subst (λ events. IsCounted events new) (ap (λ o. events_in H ++ one o) (is front (follows_last H e whole)) ∙ sym (events_more H e))
      (told.1 (events_in H) (before.counted told.0 front)));
}
