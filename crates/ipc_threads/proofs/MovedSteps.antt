-- What a copy makes of the slots: those of the two calls of the transfer are changed, and no other.
use Rattle.std.proofs.lemmas.Bool.{cases_eq, ne_eqb}
use Rattle.std.proofs.lemmas.List.{get_or-set_same, get_or-set_other, length-set}
use Rattle.std.proofs.lemmas.Option.{none-some, same_Some}
use Rattle.std.proofs.Common.{is_some, ◌≡◌, ◌≢◌, refl, sym, ap, ◌∙◌, ℕ, ◌+◌, ◌^◌, ◌<◌, ◌≤◌, add-zero, ◌==◌, ◌||◌, if◌then◌else◌, Bool, true, false, List, [], ◌∷◌, ◌++◌, Option, Some, None, slice_set, inl, inr, arith}
use Rattle.std.specs.Option.{option_map_or}
use Rattle.ipc_words.specs.Limits.{block_bytes, max_string_bytes, table_slots}
use Rattle.ipc_words.specs.ThreadId.{nilthread}
use Rattle.ipc_history.specs.Calls.{caller_of, to_of}
use Rattle.ipc_history.specs.Phases.{is_over, is_sent, receiver_of, sender_of, moved_bytes}
use Rattle.ipc_history.specs.Legal.{Legal, Follows}
use Rattle.ipc_history.specs.declared.entry.Entry.{Entry}
use Rattle.ipc_history.specs.declared.entry.Entry.TheVariants.{Given}
use Rattle.ipc_history.specs.declared.entry.Input.TheVariants.{Moved}
use Rattle.ipc_laws.proofs.Changing.{changes}
use Rattle.ipc_laws.proofs.Histories.{moving_passes}
use Rattle.ipc_laws.proofs.Moving.{counted}
use Rattle.ipc_laws.proofs.Normal.{moves_fit}
use Rattle.ipc_laws.proofs.OnePhase.{passes_apart}
use Rattle.ipc_laws.proofs.Pairing.{receiver_of_sender}
use Rattle.ipc_laws.proofs.PhaseParts.{Passes}
use Rattle.ipc_laws.proofs.ThreadChanges.{live_threads_push}
use Rattle.ipc_threads.specs.declared.last.Last.TheVariants.{Nothing}
use Rattle.ipc_threads.proofs.LastEntries.{ends_with}
use Rattle.ipc_threads.proofs.LiveSlots.{live_alike, with_call_lives}
use Rattle.ipc_threads.specs.Slots.{Stands, slot_at, slot_of, blank}
use Rattle.ipc_threads.specs.Standings.{standing_of, phase_of}
use Rattle.ipc_threads.specs.Standings.{IsStanding}
use Rattle.ipc_threads.specs.Steps.{call_after, next_phase, with_call, standing_in, holds, HasRoom, copied, copied_phase, taken}
use Rattle.ipc_threads.specs.declared.slot.Phase.{Phase}
use Rattle.ipc_threads.specs.declared.slot.Phase.TheVariants.{Sending, Passing, Receiving, Taking}
use Rattle.ipc_threads.specs.Slot.{Slot}
use Rattle.ipc_threads.specs.declared.slot.Standing.{Standing}
use Rattle.ipc_threads.specs.declared.kept.KeptSlots.{KeptSlots}
use Rattle.ipc_threads.proofs.Holders.{call_of_slot}
use Rattle.ipc_threads.proofs.OutputSteps.{calls_made_kept, no_end, one_holder}
use Rattle.ipc_threads.proofs.PhaseFacts.{Says, phase_says}
use Rattle.ipc_threads.proofs.Holders.{slot_standing}
use Rattle.ipc_threads.proofs.SlotSteps.{plain_moved, slot_step, last_kept}
use Rattle.ipc_threads.proofs.Tables.{change_none, held, holds_it}

-- what is kept of a call after a copy
pub copied_is : (n count moment : ℕ) (s : Standing) → call_after (Given (Moved n count)) moment 0 0 s ≡ Some (copied n count s)
copied_is n count moment s = no_end (s.from == nilthread) None (Some _) ∙ ap (λ p. Some (record s { moved = s.moved + (if n == s.number then count else 0); phase = p })) (phase s.phase)
  where
    phase : (p : Phase) → next_phase None false None (λ k. if n == k then count else 0) 0 0 p ≡ copied_phase n count p
    phase Sending = refl
    phase (Passing m) = refl
    phase Receiving = refl
    phase (Taking k by bytes) = refl

-- a call that neither sends nor takes it is left as it is
copied_none : (n count : ℕ) (s : Standing) → (n == s.number) ≡ false → ((k by bytes : ℕ) → s.phase ≡ Taking k by bytes → (n == k) ≡ false) → copied n count s ≡ s
copied_none n count s other apart = rw (other, add-zero s.moved) (ap (λ p. record s { phase = p }) (phase s.phase refl))
  where
    phase : (p : Phase) → s.phase ≡ p → copied_phase n count p ≡ p
    phase Sending e = refl
    phase (Passing m) e = refl
    phase Receiving e = refl
    phase (Taking k by bytes) e = rw (apart k by bytes e) (ap (Taking k by) (add-zero bytes))

standing_phase : (P : List Entry) (n : ℕ) → (standing_of P n).phase ≡ phase_of P n
unfolding standing_of
standing_phase P n = refl

-- what the phase of a call that takes or passes a message says
abbrev Tells : List Entry → ℕ → Phase → Type 0
Tells P n (Passing m) = receiver_of P n ≡ Some m
Tells P n (Taking k by bytes) = (sender_of P n ≡ Some k) × (bytes ≡ moved_bytes P k)
Tells P n phase = Unit {0}

tells : (P : List Entry) (n : ℕ) → Tells P n (phase_of P n)
unfolding phase_of
tells P n = go ((to_of P n == nilthread) || is_sent P n) (sender_of P n) refl (receiver_of P n) refl
  where
    go : (b : Bool) (o : Option ℕ) → sender_of P n ≡ o → (r : Option ℕ) → receiver_of P n ≡ r → Tells P n (if b then option_map_or (λ k. Taking k (caller_of P k) (moved_bytes P k)) o Receiving else option_map_or (λ m. Passing m) r Sending)
    go true None e r g = tt
    go true (Some k) e r g = (e, refl)
    go false o e None g = tt
    go false o e (Some m) g = g

module _ (P : List Entry) (n count : ℕ) (legal : Legal P) (follows : Follows P (Given (Moved n count))) where
  abbrev Q : List Entry
  Q = P ++ Given (Moved n count) ∷ []

  pub passes : (m : ℕ) × Passes P n m
  unfolding Follows
  passes = moving_passes P n count follows.1

  pub sends : is_over P n ≡ false
  sends = passes.1.opened

  -- a call that takes bytes of n is its receiver
  takes : (x : ℕ) (k by bytes : ℕ) → phase_of P x ≡ Taking k by bytes → n ≡ k → x ≡ passes.0
  takes x k by bytes e same =
      let told : (sender_of P x ≡ Some k) × (bytes ≡ moved_bytes P k) = rw e at (tells P x) in
      let pair = receiver_of_sender P legal k x told.0 in
      same_Some x passes.0 (sym pair ∙ (ap (receiver_of P) (sym same) ∙ passes.1.pair))

  module _ (slots : KeptSlots) (stands : Stands P slots) where
    abbrev after : Slot → Slot
    after = with_call (call_after (Given (Moved n count)) slots.moment 0 0)

    after_is : (k : ℕ) → after (slot_at slots.table k) ≡ slot_of Q k
    after_is k = rw (stands.table k, stands.moment) (sym (slot_step P (Given (Moved n count)) legal follows (plain_moved n count) 0 0 (λ x j e. absurd (none-some j e)) k))

    -- a slot that holds neither call
    other : (k : ℕ) → ((s : Standing) → standing_in (slot_at slots.table k) ≡ Some s → (s.number ≢ n) × (s.number ≢ passes.0)) → slot_at slots.table k ≡ after (slot_at slots.table k)
    other k apart = sym (change_none (call_after (Given (Moved n count)) slots.moment 0 0) (slot_at slots.table k) (λ s e. copied_is n count slots.moment s ∙ ap (λ s. Some s) (copied_none n count s (ne_eqb n s.number (λ g. (apart s e).0 (sym g))) (λ j by bytes p. ne_eqb n j (λ g. (apart s e).1 (takes s.number j by bytes (phase_here k s e ∙ p) g))))))
      where
        phase_here : (k : ℕ) (s : Standing) → standing_in (slot_at slots.table k) ≡ Some s → phase_of P s.number ≡ s.phase
        phase_here k s e = let call = call_of_slot P k s (ap standing_in (sym (stands.table k)) ∙ e) in sym (ap (λ s. s.phase) call.is ∙ standing_phase P s.number)

    pub noted_moved : (m i j : ℕ) → receiver_of P n ≡ Some m → i < table_slots → j < table_slots → holds (slot_at slots.table i) n ≡ true → holds (slot_at slots.table j) m ≡ true → Stands Q (record slots { table = slice_set (slice_set slots.table i (after (slot_at slots.table i))) j (after (slot_at slots.table j)); last = Nothing })
    noted_moved m i j pair within_i within_j hi hj = record {
      size = length-set first j _ ∙ (length-set slots.table i _ ∙ stands.size);
      moment = stands.moment ∙ sym ((changes P (Given (Moved n count))).moment);
      calls_made = stands.calls_made ∙ sym (calls_made_kept P (Given (Moved n count)) refl);
      live = live_alike _ slots.table (length-set first j _ ∙ length-set slots.table i _) (λ k. ap (λ slot. is_some slot.live) (at k) ∙ with_call_lives _ (slot_at slots.table k)) ∙ stands.live ∙ sym (live_threads_push P (Given (Moved n count)) refl (λ t. refl) (λ t. refl));
      top = stands.top;
      above = λ k h. last_kept P (Given (Moved n count)) k refl ∙ stands.above k h;
      table = λ k. at k ∙ after_is k;
      last = ends_with P (Given (Moved n count));
    }
      where
        first : List Slot
        first = slice_set slots.table i (after (slot_at slots.table i))

        receiver : m ≡ passes.0
        receiver = same_Some m passes.0 (sym pair ∙ passes.1.pair)

        apart : (k : ℕ) → k ≢ i → k ≢ j → (s : Standing) → standing_in (slot_at slots.table k) ≡ Some s → (s.number ≢ n) × (s.number ≢ passes.0)
        apart k p q s e = ((λ same. p (one_holder P slots.table stands.table n k i (rw same at (holds_it (slot_at slots.table k) s e)) hi)), (λ same. q (one_holder P slots.table stands.table m k j (rw (same ∙ sym receiver) at (holds_it (slot_at slots.table k) s e)) hj)))

        before : (k : ℕ) → k ≢ j → slot_at first k ≡ after (slot_at slots.table k)
        before k q = elim (cases_eq k i) [ inl e ↦ rw e (get_or-set_same slots.table i _ blank (rw stands.size within_i)) | inr p ↦ get_or-set_other slots.table i k _ blank p ∙ other k (apart k p q) ]

        at : (k : ℕ) → slot_at (slice_set first j (after (slot_at slots.table j))) k ≡ after (slot_at slots.table k)
        at k = elim (cases_eq k j) [ inl e ↦ rw e (get_or-set_same first j (after (slot_at slots.table j)) blank (rw (length-set slots.table i (after (slot_at slots.table i)) ∙ stands.size) within_j)) | inr q ↦ get_or-set_other first j k _ blank q ∙ before k q ]

-- the counts are small
pub moved_room : (P : List Entry) (n count : ℕ) → Legal P → Follows P (Given (Moved n count)) → (s : Standing) → IsStanding P s → HasRoom count s
unfolding Follows standing_of
moved_room P n count legal follows s call =
    let few : count ≤ block_bytes = rw (counted P n count follows.1) (omega arith) in
    let own : moved_bytes P s.number ≤ max_string_bytes = moves_fit P legal s.number in
    rw call.is (record { moved = omega arith; taken = bytes (phase_of P s.number) few (tells P s.number) })
  where
    bytes : (p : Phase) → count ≤ block_bytes → Tells P s.number p → taken p + count < 2 ^ 64
    bytes Sending few h = omega arith
    bytes (Passing m) few h = omega arith
    bytes Receiving few h = omega arith
    bytes (Taking k by b) few h = omega (arith, h.1, moves_fit P legal k)

pub slot_room : (P : List Entry) (n count : ℕ) (slots : KeptSlots) → Legal P → Follows P (Given (Moved n count)) → Stands P slots → (k : ℕ) (s : Standing) → standing_in (slot_at slots.table k) ≡ Some s → HasRoom count s
slot_room P n count slots legal follows stands k s e = moved_room P n count legal follows s (slot_standing P slots stands k s e)

-- the phase of the sending call names the receiving one
pub passing_at : (P : List Entry) (n count : ℕ) → Legal P → Follows P (Given (Moved n count)) → (slots : KeptSlots) → Stands P slots → (i : ℕ) → holds (slot_at slots.table i) n ≡ true → (m : ℕ) × (receiver_of P n ≡ Some m) × ((s : Standing) → standing_in (slot_at slots.table i) ≡ Some s → s.phase ≡ Passing m)
passing_at P n count legal follows slots stands i h = (m, p.pair, λ s e. phase s e)
  where
    m : ℕ
    m = (passes P n count legal follows).0

    p : Passes P n m
    p = (passes P n count legal follows).1

    of : (q : Phase) → Says P n q → phase_of P n ≡ q → phase_of P n ≡ Passing m
    of Sending a e = absurd (none-some m (sym a.2 ∙ p.pair))
    of (Passing j) a e = e ∙ ap (λ j. Passing j) (same_Some j m (sym a.2 ∙ p.pair))
    of Receiving a e = absurd (passes_apart P legal n m p.pair p.running a.3)
    of (Taking k by b) a e = absurd (passes_apart P legal n m p.pair p.running a.3)

    phase : (s : Standing) → standing_in (slot_at slots.table i) ≡ Some s → s.phase ≡ Passing m
    phase s e =
        let call = slot_standing P slots stands i s e in
        let x = held (slot_at slots.table i) n h in
        let same : s.number ≡ n = ap (λ s. s.number) (same_Some s x.0 (sym e ∙ x.1)) ∙ x.2 in
        ap (λ s. s.phase) call.is ∙ (standing_phase P s.number ∙ (ap (phase_of P) same ∙ of (phase_of P n) (phase_says P legal n p.opened) refl))

pub receiver_opened : (P : List Entry) (n count : ℕ) → Legal P → Follows P (Given (Moved n count)) → (m : ℕ) → receiver_of P n ≡ Some m → is_over P m ≡ false
receiver_opened P n count legal follows m pair = let p = passes P n count legal follows in rw (same_Some m p.0 (sym pair ∙ p.1.pair)) p.1.opened_too

pub passing_is : (P : List Entry) (n count : ℕ) → Legal P → Follows P (Given (Moved n count)) → (slots : KeptSlots) → Stands P slots → (i : ℕ) → holds (slot_at slots.table i) n ≡ true → (s : Standing) → standing_in (slot_at slots.table i) ≡ Some s → (r : ℕ) → s.phase ≡ Passing r → receiver_of P n ≡ Some r
passing_is P n count legal follows slots stands i h s e r is = let p = passing_at P n count legal follows slots stands i h in let same : p.0 ≡ r = passing_same p.0 r (sym (p.2 s e) ∙ is) in p.1 ∙ ap (λ m. Some m) same
  where
    passing_same : (a b : ℕ) → Passing a ≡ Passing b → a ≡ b
    passing_same a b e = cc
