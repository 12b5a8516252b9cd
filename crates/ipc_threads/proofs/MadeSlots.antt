-- Slots that are made one by one stand for a history where each is what the history says of its
-- number.
use Rattle.std.proofs.lemmas.Bool.{cases_eq, ne_eqb}
use Rattle.std.proofs.lemmas.List.{get_or-set_same, get_or-set_other, length-set}
use Rattle.std.proofs.Common.{◌≡◌, refl, sym, ap, ◌∙◌, subst, append-nil, append_assoc, ℕ, zero, suc, ◌+◌, ◌-◌, ◌<◌, ◌≤◌, true, false, List, [], ◌∷◌, ◌++◌, length, Option, Some, None, is_some, option_map, option_and_then, slice_set, inl, inr, arith}
use Rattle.std.specs.Prelude.{replicate}
use Rattle.std.specs.Option.{option_or}
use Rattle.ipc_words.specs.Limits.{table_slots}
use Rattle.ipc_words.specs.ThreadId.{number_of}
use Rattle.ipc_history.specs.Words.{first_some, last, last_some}
use Rattle.ipc_history.specs.Entries.{breaks, opened_in, opens, thread_in}
use Rattle.ipc_history.specs.Calls.{calls_made, numbers}
use Rattle.ipc_history.specs.Threads.{now}
use Rattle.ipc_history.specs.NextOutput.{end_of, first_given, meeting_of, next_output, partner_gone_of, stop_after, timeout_of, turn_after}
use Rattle.ipc_history.specs.Legal.{Follows, Legal, Quiet}
use Rattle.ipc_history.specs.declared.entry.Entry.{Entry}
use Rattle.ipc_history.specs.declared.entry.Entry.TheVariants.{Given, Written}
use Rattle.ipc_history.specs.declared.entry.Input.TheVariants.{At, Opened, Called, Exreg, Broke, Moved}
use Rattle.ipc_laws.specs.Counting.{live_threads}
use Rattle.ipc_laws.proofs.Histories.{legal_front}
use Rattle.ipc_laws.proofs.ThreadChanges.{is_live_push, live_threads_push}
use Rattle.ipc_threads.specs.Making.{IsMade}
use Rattle.ipc_threads.specs.Last.{last_output}
use Rattle.ipc_threads.specs.Slots.{Stands, blank, ended, fresh, live_at, live_of, live_slots, slot_at, slot_of}
use Rattle.ipc_threads.specs.Slot.{Slot}
use Rattle.ipc_threads.specs.declared.kept.KeptSlots.{KeptSlots}
use Rattle.ipc_threads.proofs.LiveCounts.{live_none, one_less_live, one_more_live}
use Rattle.ipc_threads.proofs.LiveSlots.{live_alike, live_blank, live_slots_closed, live_slots_opened}
use Rattle.ipc_threads.proofs.SlotSteps.{last_kept, live_kept}
use Rattle.ipc_threads.proofs.Starting.{length_replicate, slot_none}
use Rattle.ipc_threads.proofs.Tables.{slot_at-replicate}
use Rattle.ipc_threads.proofs.ThreadSteps.{alive, held_here, live_now, opened_within, opens_in_free, slot_beside, slot_broken, slot_opened, slot_other}

-- a table with a live thread for each number that has one, as many as live
record Counted (P : List Entry) : Type 0 where
  table : List Slot
  size : length table ≡ table_slots
  same : (k : ℕ) → is_some (slot_at table k).live ≡ is_some (slot_of P k).live
  live : live_slots table ≡ live_threads P
  above : (k : ℕ) → table_slots ≤ k → last_some (thread_in k) P ≡ None

none : Counted []
none = record {
  table = replicate table_slots blank;
  size = length_replicate table_slots;
  same = λ k. ap (λ s. is_some s.live) (slot_at-replicate table_slots k ∙ sym (slot_none k));
  live = live_blank table_slots ∙ sym live_none;
  above = λ k h. refl;
}

lives : (P : List Entry) (k : ℕ) → is_some (slot_of P k).live ≡ is_some (live_of P k)
unfolding slot_of
lives P k = go (live_of P k)
  where
    go : (o : Option ℕ) → is_some (option_map (live_at P) o) ≡ is_some o
    go None = refl
    go (Some t) = refl

-- an entry that opens and breaks no thread
other : (P : List Entry) (e : Entry) → ((k : ℕ) → thread_in k e ≡ None) → opened_in e ≡ None → ((t : ℕ) → opens t e ≡ false) → ((t : ℕ) → breaks t e ≡ false) → Counted P → Counted (P ++ e ∷ [])
other P e threads opened opens breaks c = record {
  table = c.table;
  size = c.size;
  same = λ k. c.same k ∙ (lives P k ∙ (ap is_some (sym (live_kept P e k (threads k) (λ t h. is_live_push P e t (opens t) (breaks t)))) ∙ sym (lives (P ++ e ∷ []) k)));
  live = c.live ∙ sym (live_threads_push P e opened opens breaks);
  above = λ k h. last_kept P e k (threads k) ∙ c.above k h;
}

free_some : {X : Type 0} (o : Option X) → is_some o ≡ false → o ≡ None
free_some None h = refl
free_some (Some x) h = absurd (cc)

with_opened : (P : List Entry) (t space : ℕ) → Legal P → Follows P (Given (Opened t space)) → Counted P → Counted (P ++ Given (Opened t space) ∷ [])
with_opened P t space legal follows c =
    let within = opened_within P t space follows in
    record {
      table = slice_set c.table (number_of t) (fresh t space);
      size = length-set c.table (number_of t) (fresh t space) ∙ c.size;
      same = λ k. elim (cases_eq k (number_of t)) [
        | inl e ↦ rw e (ap (λ s. is_some s.live) (get_or-set_same c.table (number_of t) (fresh t space) blank (rw c.size within) ∙ sym (slot_opened P t space legal follows)))
        | inr p ↦ ap (λ s. is_some s.live) (get_or-set_other c.table (number_of t) k (fresh t space) blank p) ∙ (c.same k ∙ ap (λ s. is_some s.live) (sym (slot_other P t space legal follows k (λ g. p (sym g)))))
      ];
      live = live_slots_opened c.table (number_of t) (fresh t space) (rw c.size within) (free_some (slot_at c.table (number_of t)).live (c.same (number_of t) ∙ opens_in_free P t space legal follows)) refl ∙ ap (λ n. n + 1) c.live ∙ sym (one_more_live P t space (live_now P t space legal follows));
      above = λ k h. last_kept P (Given (Opened t space)) k (rw (ne_eqb (number_of t) k (λ e. omega (arith, e, within, h))) refl) ∙ c.above k h;
    }

some_within : (table : List Slot) (k : ℕ) → is_some (slot_at table k).live ≡ true → k < length table
some_within [] k h = absurd (cc)
some_within (x ∷ xs) zero h = omega arith
some_within (x ∷ xs) (suc k) h = let less = some_within xs k h in omega (arith, less)

with_broke : (P : List Entry) (t : ℕ) → Legal P → Follows P (Given (Broke t)) → Counted P → Counted (P ++ Given (Broke t) ∷ [])
with_broke P t legal follows c =
    let lived : is_some (slot_at c.table (number_of t)).live ≡ true = c.same (number_of t) ∙ held_here P t legal follows in
    let within = some_within c.table (number_of t) lived in
    let gone = ended (slot_at c.table (number_of t)) in
    record {
      table = slice_set c.table (number_of t) gone;
      size = length-set c.table (number_of t) gone ∙ c.size;
      same = λ k. elim (cases_eq k (number_of t)) [
        | inl e ↦ rw e (ap (λ s. is_some s.live) (get_or-set_same c.table (number_of t) gone blank within) ∙ ap (λ s. is_some s.live) (sym (slot_broken P t legal follows)))
        | inr p ↦ ap (λ s. is_some s.live) (get_or-set_other c.table (number_of t) k gone blank p) ∙ (c.same k ∙ ap (λ s. is_some s.live) (sym (slot_beside P t legal follows k (λ g. p (sym g)))))
      ];
      live = live_slots_closed c.table (number_of t) gone within lived refl ∙ ap (λ n. n - 1) c.live ∙ sym (one_less_live P legal t (alive P t legal follows));
      above = λ k h. last_kept P (Given (Broke t)) k refl ∙ c.above k h;
    }

step : (P : List Entry) (e : Entry) → Legal P → Follows P e → Counted P → Counted (P ++ e ∷ [])
step P (Given (Opened t space)) legal follows c = with_opened P t space legal follows c
step P (Given (Broke t)) legal follows c = with_broke P t legal follows c
step P (Given (At moment)) legal follows c = other P (Given (At moment)) (λ k. refl) refl (λ t. refl) (λ t. refl) c
step P (Given (Called n t call)) legal follows c = other P (Given (Called n t call)) (λ k. refl) refl (λ t. refl) (λ t. refl) c
step P (Given (Exreg t target control)) legal follows c = other P (Given (Exreg t target control)) (λ k. refl) refl (λ t. refl) (λ t. refl) c
step P (Given (Moved n count)) legal follows c = other P (Given (Moved n count)) (λ k. refl) refl (λ t. refl) (λ t. refl) c
step P (Written output) legal follows c = other P (Written output) (λ k. refl) refl (λ t. refl) (λ t. refl) c

next_follows : (P : List Entry) (e : Entry) (rest : List Entry) → Legal (P ++ e ∷ rest) → Follows P e
unfolding Legal
next_follows P e rest legal = legal P e rest refl

on : (rest P : List Entry) → Legal (P ++ rest) → Counted P → Counted (P ++ rest)
on [] P legal c = subst Counted (sym (append-nil P)) c
on (e ∷ rest) P legal c =
    let whole = append_assoc P (e ∷ []) rest in
    subst Counted whole (on rest (P ++ e ∷ []) (subst Legal (sym whole) legal) (step P e (legal_front P (e ∷ rest) legal) (next_follows P e rest legal) c))

counted : (P : List Entry) → Legal P → Counted P
counted P legal = on P [] legal none

first_two : {X : Type 0} (a b c : Option X) → option_or a (option_or b c) ≡ None → option_or a b ≡ None
first_two None None c h = refl
first_two None (Some x) c h = h
first_two (Some x) b c h = h

ends_quiet : (P : List Entry) → Quiet P → last_output P ≡ None
unfolding next_output
ends_quiet P quiet =
    first_two (option_and_then (stop_after P) (last P)) (option_and_then (turn_after P) (last P))
    (first_given (first_some (end_of P) (numbers P) ∷ first_some (partner_gone_of P) (numbers P) ∷ first_some (meeting_of P) (numbers P) ∷ first_some (timeout_of P) (numbers P) ∷ []))
    quiet

-- slots that are made so stand for a quiet history
pub stands_made : (P : List Entry) (slots : KeptSlots) → Legal P → Quiet P → IsMade slots (now P) (calls_made P) → length slots.table ≡ table_slots → ((k : ℕ) → slot_at slots.table k ≡ slot_of P k) → Stands P slots
stands_made P slots legal quiet made size table =
    let c = counted P legal in
    let top = made.top in
    record {
      size = size;
      moment = made.moment;
      calls_made = made.calls_made;
      live = live_alike slots.table c.table (size ∙ sym c.size) (λ k. ap (λ s. is_some s.live) (table k) ∙ sym (c.same k)) ∙ c.live;
      top = omega (arith, top);
      above = λ k h. c.above k (omega (arith, top, h));
      table = table;
      last = rw made.last (ends_quiet P quiet);
    }

-- past the last place a history has no thread
pub slot_above : (P : List Entry) → Legal P → (k : ℕ) → table_slots ≤ k → slot_of P k ≡ blank
unfolding slot_of live_of Rattle.ipc_history.specs.Threads.next_version
slot_above P legal k h = rw ((counted P legal).above k h) refl
