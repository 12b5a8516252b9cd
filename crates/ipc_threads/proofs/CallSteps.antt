-- What a call that is entered makes of the slots.
use Rattle.std.proofs.lemmas.Bool.{false_from_ne_true, cases_eq, ne_eqb}
use Rattle.std.proofs.lemmas.Option.{none-some}
use Rattle.std.proofs.lemmas.List.{get_or-set_same, get_or-set_other, length-set, length-append}
use Rattle.std.proofs.Common.{◌≡◌, ◌≢◌, refl, sym, ap, ◌∙◌, ℕ, ◌+◌, ◌<◌, ◌==◌, ◌||◌, ◌&&◌, eq-eqb, if◌then◌else◌, Bool, true, false, List, [], ◌∷◌, ◌++◌, append-nil, length, Option, Some, None, is_some, option_map, slice_set, inl, inr, arith}
use Rattle.std.specs.List.{list_any}
use Rattle.ipc_words.specs.Limits.{table_slots}
use Rattle.ipc_words.specs.ThreadId.{nilthread, number_of}
use Rattle.ipc_history.specs.CallParts.{CallParts}
use Rattle.ipc_history.specs.Words.{first_some}
use Rattle.ipc_history.specs.Entries.{names, calls, call_in, closes}
use Rattle.ipc_history.specs.Calls.{numbers, calls_made, call_at, is_called, caller_of, to_of, from_of, tag_of, originator_of, send_period_of, receive_period_of, strings_of, message_size}
use Rattle.ipc_history.specs.Threads.{now, is_live, space_of, next_version}
use Rattle.ipc_history.specs.Phases.{is_sent, is_over, open_call, receiver_of, sender_of, moved_bytes}
use Rattle.ipc_history.specs.Matching.{before_call, is_propagated, shown_sender, from_specifier}
use Rattle.ipc_history.specs.Legal.{Legal, Follows}
use Rattle.ipc_history.specs.declared.entry.Entry.{Entry}
use Rattle.ipc_history.specs.declared.entry.Entry.TheVariants.{Given}
use Rattle.ipc_history.specs.declared.entry.Input.TheVariants.{Called}
use Rattle.ipc_laws.proofs.Changing.{any_push, changes}
use Rattle.ipc_laws.proofs.Endings.{closes_names, live_unbroken}
use Rattle.ipc_laws.proofs.Growth.{caller_of_kept, is_called_kept, open_is_called, was_open}
use Rattle.ipc_laws.proofs.Histories.{follows_at, named_open}
use Rattle.ipc_laws.proofs.Numbering.{called_below, calls_called, entered as entered_free, numbers_push_called}
use Rattle.ipc_laws.proofs.OneOpen.{caller_at, free_parts}
use Rattle.ipc_laws.proofs.Places.{any_at, any_place}
use Rattle.ipc_laws.proofs.Settling.{legal_push}
use Rattle.ipc_laws.proofs.Tests.{not_both}
use Rattle.ipc_laws.proofs.ThreadChanges.{live_threads_push, has_broken_push, is_live_push}
use Rattle.ipc_laws.proofs.WordLemmas.{first_some_push, option_or_none}
use Rattle.ipc_threads.specs.declared.last.Last.TheVariants.{Nothing}
use Rattle.ipc_threads.proofs.LastEntries.{ends_with}
use Rattle.ipc_threads.proofs.LiveSlots.{live_calling}
use Rattle.ipc_laws.proofs.Finds.{absent}
use Rattle.ipc_laws.proofs.Silent.{Before, unnamed_front}
use Rattle.ipc_threads.specs.Standings.{standing_of, since_of, phase_of, entered, entered_standing}
use Rattle.ipc_threads.specs.Slots.{Stands, slot_at, slot_of, live_of, live_at, blank}
use Rattle.ipc_threads.specs.Steps.{calling}
use Rattle.ipc_threads.specs.declared.slot.Phase.TheVariants.{Sending, Receiving}
use Rattle.ipc_threads.specs.Slot.{Slot}
use Rattle.ipc_threads.specs.declared.slot.Standing.{Standing}
use Rattle.ipc_threads.specs.declared.kept.KeptSlots.{KeptSlots}
use Rattle.ipc_threads.proofs.Holders.{live_of_at, live_of_is}
use Rattle.ipc_threads.proofs.OutputSteps.{same}
use Rattle.ipc_threads.proofs.SlotSteps.{live_kept, space_kept, version_kept, last_kept}
use Rattle.ipc_threads.proofs.StandingSteps.{found, own, standing_step}
use Rattle.ipc_laws.proofs.Calling.{bool_cases}

module _ (P : List Entry) (n t : ℕ) (call : CallParts) (legal : Legal P) (follows : Follows P (Given (Called n t call))) where
  abbrev e : Entry
  e = Given (Called n t call)

  abbrev Q : List Entry
  Q = P ++ Given (Called n t call) ∷ []

  legal_now : Legal Q
  legal_now = legal_push P e legal follows

  pub alive : is_live P t ≡ true
  unfolding Follows
  alive = (free_parts P t (entered_free P n t call follows.1).0).0

  pub idle : open_call P t ≡ None
  unfolding Follows
  idle = (free_parts P t (entered_free P n t call follows.1).0).1

  -- the call is new
  uncalled : is_called P n ≡ false
  unfolding Follows
  uncalled = false_from_ne_true _ (λ called. let below = called_below P legal n called in omega (arith, (entered_free P n t call follows.1).1, below))

  unnamed : list_any (names n) P ≡ false
  unnamed = false_from_ne_true _ (λ named.
      let p = any_place (names n) P named in
      let f = follows_at P legal p.0 p.1 in
      not_both (elim (bool_cases (calls n p.0)) [
        | inl enters ↦ calls_called P n (any_at (calls n) P p.0 p.1 enters)
        | inr other ↦ rw p.1.whole (is_called_kept p.1.front (p.0 ∷ p.1.rest) n (open_is_called p.1.front n (named_open p.1.front p.0 f n p.2 other)))
      ]) uncalled)

  front : Before n P (e ∷ [])
  front = unnamed_front n P (e ∷ []) unnamed

  here : call_at Q n ≡ Some (t, call)
  unfolding call_at
  here = front.call ∙ rw (eq-eqb n n refl) refl

  pub new_caller : caller_of Q n ≡ t
  new_caller = caller_at Q n t call here

  before_it : before_call Q n ≡ P
  unfolding before_call
  before_it = front.calls ∙ rw (eq-eqb n n refl) (append-nil P)

  unsent : is_sent Q n ≡ false
  unfolding is_sent
  unsent = front.sends

  unpaired : receiver_of Q n ≡ None
  unfolding receiver_of
  unpaired = front.receiver

  unsending : sender_of Q n ≡ None
  unfolding sender_of
  unsending = front.sender

  unmoved : moved_bytes Q n ≡ 0
  unfolding moved_bytes
  unmoved = front.bytes

  wanted : from_specifier Q n ≡ call.from
  unfolding from_specifier from_of
  wanted = rw (front.turned, here) refl

  began : since_of Q n ≡ now P
  unfolding since_of
  began = rw (unsent, before_it) refl

  phase : phase_of Q n ≡ (if call.to == nilthread then Receiving else Sending)
  unfolding phase_of to_of
  phase = rw (here, unsent, unpaired, unsending) (go (call.to == nilthread))
    where
      go : (b : Bool) → (if b || false then Receiving else Sending) ≡ (if b then Receiving else Sending)
      go true = refl
      go false = refl

  standing : standing_of Q n ≡ entered_standing P n t call
  unfolding standing_of to_of from_of shown_sender is_propagated tag_of originator_of caller_of send_period_of receive_period_of message_size strings_of
  standing = rw (wanted, began, phase, unmoved, before_it, here) refl

  unclosed : list_any (closes n) Q ≡ false
  unclosed = any_push (closes n) P e ∙ rw (false_from_ne_true (list_any (closes n) P) (λ some. let p = any_place (closes n) P some in not_both (any_at (names n) P p.0 p.1 (closes_names n p.0 p.2).0) unnamed)) refl

  over : is_over Q n ≡ ((call.from == nilthread) && (call.to == nilthread))
  unfolding is_over caller_of from_of to_of
  over = rw (unclosed, here, has_broken_push P e t refl, live_unbroken P t alive, unsent) refl

  -- another call that is open was there before
  old : (m : ℕ) → n ≢ m → is_over Q m ≡ false → is_called P m ≡ true
  unfolding is_called call_at
  old m other o = ap is_some (sym (first_some_push (call_in m) P e ∙ (rw (ne_eqb n m other) (option_or_none (first_some (call_in m) P))))) ∙ open_is_called Q m o

  open_now : open_call Q t ≡ (if (call.from == nilthread) && (call.to == nilthread) then None else Some n)
  open_now = go ((call.from == nilthread) && (call.to == nilthread)) refl
    where
      go : (b : Bool) → ((call.from == nilthread) && (call.to == nilthread)) ≡ b → open_call Q t ≡ (if b then None else Some n)
      go false h = found Q legal_now t n (over ∙ h) (caller_at Q n t call here)
      go true h = absent _ (λ m k. let mine = own Q t m k in elim (cases_eq n m) [
        | inl is ↦ not_both (over ∙ h) (rw (sym is) at mine.0)
        | inr other ↦ none-some m (sym idle ∙ found P legal t m (was_open P (e ∷ []) m (old m other mine.0) mine.0) (sym (caller_of_kept P (e ∷ []) m (old m other mine.0)) ∙ mine.1))
      ])

  -- another thread has the call that it had
  open_other : (u : ℕ) → t ≢ u → open_call Q u ≡ open_call P u
  open_other u apart = go (open_call P u) refl
    where
      still : (m : ℕ) → is_over P m ≡ false → is_over Q m ≡ false
      still m o = (changes P e).over m (open_is_called P m o) ∙ rw o (none (from_of P m == nilthread))
        where
          none : (b : Bool) → (b && false) ≡ false
          none true = refl
          none false = refl

      go : (o : Option ℕ) → open_call P u ≡ o → open_call Q u ≡ o
      go (Some m) h = let mine = own P u m h in found Q legal_now u m (still m mine.0) (caller_of_kept P (e ∷ []) m (open_is_called P m mine.0) ∙ mine.1)
      go None h = absent _ (λ m k. let mine = own Q u m k in elim (cases_eq n m) [
        | inl is ↦ apart (sym (caller_at Q n t call here) ∙ (ap (caller_of Q) is ∙ mine.1))
        | inr other ↦ none-some m (sym h ∙ found P legal u m (was_open P (e ∷ []) m (old m other mine.0) mine.0) (sym (caller_of_kept P (e ∷ []) m (old m other mine.0)) ∙ mine.1))
      ])

  standing_other : (m : ℕ) → is_over P m ≡ false → standing_of Q m ≡ standing_of P m
  standing_other m o = standing_step P e legal follows 0 0 (λ n k s. absurd (none-some k s)) m o ∙ same (standing_of P m) 0 0

  live_other : (u : ℕ) → t ≢ u → live_at Q u ≡ live_at P u
  unfolding live_at
  live_other u apart = rw (space_kept P e u refl, open_other u apart) (ap (λ c. record { thread = u; space = space_of P u; call = c }) (go (open_call P u) refl))
    where
      go : (o : Option ℕ) → open_call P u ≡ o → option_map (standing_of Q) o ≡ option_map (standing_of P) o
      go None h = refl
      go (Some m) h = ap (λ s. Some s) (standing_other m (own P u m h).0)

  lives : (k : ℕ) → live_of Q k ≡ live_of P k
  lives k = live_kept P e k refl (λ u h. is_live_push P e u refl refl)

  slot_called : slot_of Q (number_of t) ≡ calling (entered P n t call) (slot_of P (number_of t))
  unfolding slot_of live_at
  slot_called = rw (version_kept P e (number_of t) refl, lives (number_of t), live_of_at P legal t alive, space_kept P e t refl, open_now) (go ((call.from == nilthread) && (call.to == nilthread)))
    where
      holding : Option Standing → Slot
      holding c = record { version = next_version P (number_of t); live = Some (record { thread = t; space = space_of P t; call = c }) }

      go : (b : Bool) → holding (option_map (standing_of Q) (if b then None else Some n)) ≡ holding (if b then None else Some (entered_standing P n t call))
      go true = refl
      go false = ap (λ s. holding (Some s)) standing

  slot_beside : (k : ℕ) → number_of t ≢ k → slot_of Q k ≡ slot_of P k
  unfolding slot_of
  slot_beside k apart = rw (version_kept P e k refl, lives k) (ap (λ l. record { version = next_version P k; live = l }) (go (live_of P k) refl))
    where
      go : (o : Option ℕ) → live_of P k ≡ o → option_map (live_at Q) o ≡ option_map (live_at P) o
      go None h = refl
      go (Some u) h = ap (λ l. Some l) (live_other u (λ is. apart (ap number_of is ∙ (live_of_is P k u h).number)))

  made_one : calls_made Q ≡ calls_made P + 1
  unfolding calls_made
  made_one = ap length (numbers_push_called P n t call) ∙ length-append (numbers P) (n ∷ [])

  -- its number is one more than there were calls
  numbered : n ≡ calls_made P + 1
  unfolding Follows
  numbered = (entered_free P n t call follows.1).1

  pub noted_called : (slots : KeptSlots) → Stands P slots → number_of t < table_slots → Stands Q (record slots { table = slice_set slots.table (number_of t) (calling (entered P n t call) (slot_at slots.table (number_of t))); calls_made = n; last = Nothing })
  noted_called slots stands within = record {
    size = length-set slots.table (number_of t) _ ∙ stands.size;
    moment = stands.moment ∙ sym ((changes P e).moment);
    calls_made = numbered ∙ sym made_one;
    live = live_calling slots.table (number_of t) (entered P n t call) ∙ stands.live ∙ sym (live_threads_push P e refl (λ t. refl) (λ t. refl));
    top = stands.top;
    above = λ k h. last_kept P e k refl ∙ stands.above k h;
    table = λ k. elim (cases_eq k (number_of t)) [ inl is ↦ rw is (get_or-set_same slots.table (number_of t) (calling (entered P n t call) (slot_at slots.table (number_of t))) blank (rw stands.size within) ∙ (ap (calling (entered P n t call)) (stands.table (number_of t)) ∙ sym slot_called)) | inr p ↦ get_or-set_other slots.table (number_of t) k (calling (entered P n t call) (slot_at slots.table (number_of t))) blank p ∙ (stands.table k ∙ sym (slot_beside k (λ g. p (sym g)))) ];
    last = ends_with P e;
  }
