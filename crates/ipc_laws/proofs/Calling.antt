-- A new call that reaches a receiver: all that is possible then is of it, and its transfer begins.
use Rattle.std.proofs.lemmas.Bool.{false≢true, false_from_ne_true, or_cases}
use Rattle.std.proofs.lemmas.Option.{none-some}
use Rattle.std.proofs.Common.{◌≡◌, refl, sym, ap, ◌∙◌, subst, ℕ, ◌==◌, ◌||◌, ◌&&◌, not, eq-eqb, eqb-true, Bool, true, false, List, [], ◌∷◌, ◌++◌, append-nil, Some, None, find, inl, inr, ◌⊎◌, arith}
use Rattle.std.specs.List.{list_any}
use Rattle.ipc_words.specs.ThreadId.{nilthread}
use Rattle.ipc_history.specs.CallParts.{CallParts}
use Rattle.ipc_history.specs.Words.{first_some}
use Rattle.ipc_history.specs.Entries.{names, calls, closes}
use Rattle.ipc_history.specs.Calls.{numbers, call_at, is_called, caller_of, to_of, from_of, tag_of, strings_of, message_size}
use Rattle.ipc_history.specs.Threads.{is_live}
use Rattle.ipc_history.specs.Phases.{is_sent, is_over, open_call, receiver_of, sender_of, is_sending, is_receiving, is_transferring}
use Rattle.ipc_history.specs.Matching.{before_call, is_propagated, shown_sender, from_specifier, accepts, matches, match_of}
use Rattle.ipc_history.specs.NextOutput.{stop_after, end_of, is_send_partner_gone, is_receive_partner_gone, left_sender_code, left_receiver_code, partner_gone_code, partner_gone_of, meeting, meeting_of, next_output}
use Rattle.ipc_history.specs.Legal.{Legal, Follows}
use Rattle.ipc_history.specs.declared.entry.Entry.{Entry}
use Rattle.ipc_history.specs.declared.entry.Entry.TheVariants.{Given, Written}
use Rattle.ipc_history.specs.declared.entry.Input.TheVariants.{Called}
use Rattle.ipc_history.specs.declared.entry.Output.{Output}
use Rattle.ipc_history.specs.declared.entry.Output.TheVariants.{Began, Ended, Failed}
use Rattle.ipc_laws.specs.Changes.{Unchanged}
use Rattle.ipc_laws.specs.Locality.{Possible, Touched}
use Rattle.ipc_laws.specs.Locality.Possible.{Ends, Meets}
use Rattle.ipc_laws.specs.Locality.Touched.{Named, Lost, Due}
use Rattle.ipc_laws.proofs.CallOrder.{is_open_call}
use Rattle.ipc_laws.proofs.Changing.{any_push, others_unchanged}
use Rattle.ipc_laws.proofs.Comes.{after_input}
use Rattle.ipc_laws.proofs.Endings.{closes_names, live_opened, live_unbroken}
use Rattle.ipc_laws.proofs.EntryLeaves.{space_kept}
use Rattle.ipc_laws.proofs.EntryTouches.{entries_touch, meeting_names}
use Rattle.ipc_laws.proofs.Growth.{caller_of_kept, is_called_kept, open_is_called}
use Rattle.ipc_laws.proofs.Histories.{follows_at, named_open}
use Rattle.ipc_laws.proofs.IdleOutputs.{first_some_none}
use Rattle.ipc_laws.proofs.Numbering.{called_below, calls_called, entered as entered_free}
use Rattle.ipc_laws.proofs.OneOpen.{caller_at, free_parts, meets_one}
use Rattle.ipc_laws.proofs.OnePhase.{sends_apart}
use Rattle.ipc_laws.proofs.OpenCalls.{caller_lives, caller_opened}
use Rattle.ipc_laws.proofs.PhaseParts.{Receives, meets_parts, passes_parts, receives_parts, sends_parts}
use Rattle.ipc_laws.proofs.Places.{any_at, any_place}
use Rattle.ipc_laws.proofs.Resting.{none_possible}
use Rattle.ipc_laws.proofs.Settling.{legal_push}
use Rattle.ipc_laws.proofs.Steps.{number_of_open}
use Rattle.ipc_laws.proofs.Tests.{not_both}
use Rattle.ipc_laws.proofs.ThreadChanges.{has_broken_push, is_live_push}
use Rattle.ipc_laws.proofs.Finds.{absent, find_only}
use Rattle.ipc_laws.proofs.Silent.{Before, unnamed_front}
use Rattle.ipc_laws.specs.Exchange.{Reaches}
use Rattle.ipc_laws.proofs.Giving.{EndOf, end_is, failure_is, first_is, meeting_is, sends_or_receives, sends_or_takes}

and_right : (a b : Bool) → b ≡ false → (a && b) ≡ false
and_right a b h = grind arith

all_five : (a b c d e : Bool) → a ≡ true → b ≡ true → c ≡ true → d ≡ true → e ≡ true → (a && b && c && d && e) ≡ true
all_five a b c d e f g h i j = grind arith

pub bool_cases : (b : Bool) → (b ≡ true) ⊎ (b ≡ false)
bool_cases true = inl refl
bool_cases false = inr refl

-- What a new call is

module _ (P : List Entry) (n t : ℕ) (call : CallParts) (legal : Legal P) (follows : Follows P (Given (Called n t call))) where
  abbrev pub C : Entry
  C = Given (Called n t call)

  abbrev pub Q : List Entry
  Q = P ++ Given (Called n t call) ∷ []

  pub legal_called : Legal Q
  legal_called = legal_push P C legal follows

  pub alive : is_live P t ≡ true
  unfolding Follows
  alive = (free_parts P t (entered_free P n t call follows.1).0).0

  pub idle : open_call P t ≡ None
  unfolding Follows
  idle = (free_parts P t (entered_free P n t call follows.1).0).1

  pub uncalled : is_called P n ≡ false
  unfolding Follows
  uncalled = false_from_ne_true _ (λ called. let below = called_below P legal n called in omega (arith, (entered_free P n t call follows.1).1, below))

  unnamed : list_any (names n) P ≡ false
  unnamed = false_from_ne_true _ (λ named.
      let p = any_place (names n) P named in
      let f = follows_at P legal p.0 p.1 in
      not_both (elim (bool_cases (calls n p.0)) [
        | inl enters ↦ calls_called P n (any_at (calls n) P p.0 p.1 enters)
        | inr other ↦ rw p.1.whole (is_called_kept p.1.front (p.0 ∷ p.1.rest) n (open_is_called p.1.front n (named_open p.1.front p.0 f n p.2 other)))
      ]) uncalled)

  front : Before n P (C ∷ [])
  front = unnamed_front n P (C ∷ []) unnamed

  pub here : call_at Q n ≡ Some (t, call)
  unfolding call_at
  here = front.call ∙ rw (eq-eqb n n refl) refl

  pub caller_here : caller_of Q n ≡ t
  caller_here = caller_at Q n t call here

  pub to_here : to_of Q n ≡ call.to
  unfolding to_of
  to_here = rw here refl

  pub from_here : from_of Q n ≡ call.from
  unfolding from_of
  from_here = rw here refl

  pub unsent : is_sent Q n ≡ false
  unfolding is_sent
  unsent = front.sends

  pub unpaired : receiver_of Q n ≡ None
  unfolding receiver_of
  unpaired = front.receiver

  pub unsending : sender_of Q n ≡ None
  unfolding sender_of
  unsending = front.sender

  pub before_it : before_call Q n ≡ P
  unfolding before_call
  before_it = front.calls ∙ rw (eq-eqb n n refl) (append-nil P)

  pub wanted_here : from_specifier Q n ≡ call.from
  unfolding from_specifier from_of
  wanted_here = rw (front.turned, here) refl

  unclosed : list_any (closes n) Q ≡ false
  unclosed = any_push (closes n) P C ∙ rw (false_from_ne_true (list_any (closes n) P) (λ some. let p = any_place (closes n) P some in not_both (any_at (names n) P p.0 p.1 (closes_names n p.0 p.2).0) unnamed)) refl

  pub over : is_over Q n ≡ ((call.from == nilthread) && (call.to == nilthread))
  unfolding is_over caller_of from_of to_of
  over = rw (unclosed, here, has_broken_push P C t refl, live_unbroken P t alive, unsent) refl

  -- nothing was possible before it, so all that is possible names it
  pub around_called : (o : Output) → Possible Q o → names n (Written o) ≡ true
  unfolding Follows
  around_called o possible = elim (entries_touch P C legal follows o possible) [ inl before ↦ absurd (none_possible P follows.0 o before) | inr touched ↦ go touched ]
    where
      go : Touched P C o → names n (Written o) ≡ true
      go (Named j a b) = subst (λ j. names j (Written o) ≡ true) (sym (eqb-true n j a)) b
      go (Lost thread j code b why is) = absurd (false≢true b)
      go (Due moment j comes due is) = absurd (none-some moment comes)

  -- It reaches a receiver

  module _ (r : ℕ) (reaches : Reaches P t call r) where
    opened_before : is_over P r ≡ false
    opened_before = (receives_parts P r r reaches.receives).opened

    pub receiver_called : is_called P r ≡ true
    receiver_called = open_is_called P r opened_before

    pub apart : (n == r) ≡ false
    apart = false_from_ne_true (n == r) (λ same. not_both (ap (is_called P) (eqb-true n r same) ∙ receiver_called) uncalled)

    same_receiver : Unchanged P C r
    same_receiver = others_unchanged P C r receiver_called apart refl

    pub opened_here : is_over Q n ≡ false
    opened_here = over ∙ and_right (call.from == nilthread) (call.to == nilthread) reaches.sends

    pub receiver_opened : is_over Q r ≡ false
    receiver_opened = same_receiver.over ∙ opened_before

    pub sending_here : is_sending Q n ≡ true
    unfolding is_sending
    sending_here = rw (to_here, reaches.sends, unpaired, opened_here) refl

    receiving_there : is_receiving Q r ≡ true
    receiving_there = same_receiver.receiving ∙ reaches.receives

    pub shown_here : shown_sender Q n ≡ t
    unfolding shown_sender is_propagated tag_of caller_of
    shown_here = rw (here, reaches.itself) refl

    caller_there : caller_of Q r ≡ call.to
    caller_there = caller_of_kept P (C ∷ []) r receiver_called ∙ sym reaches.to

    -- its caller has no other call, so that it is not its own receiver
    another : (call.to == t) ≡ false
    another = false_from_ne_true (call.to == t) (λ same. none-some r (sym idle ∙ (ap (open_call P) (sym (sym reaches.to ∙ eqb-true call.to t same)) ∙ (is_open_call P legal r opened_before).found)))

    accepted_there : accepts Q r t ≡ true
    unfolding accepts
    accepted_there = rw (same_receiver.wanted, caller_of_kept P (C ∷ []) r receiver_called, space_kept P C t (live_opened P t alive), space_kept P C (caller_of P r) (caller_opened P legal r receiver_called)) reaches.accepted

    pub met : matches Q n r ≡ true
    unfolding matches
    met = all_five (is_sending Q n) (is_receiving Q r) (to_of Q n == caller_of Q r) (not (to_of Q n == caller_of Q n)) (accepts Q r (shown_sender Q n)) sending_here receiving_there (eq-eqb (to_of Q n) (caller_of Q r) (to_here ∙ sym caller_there)) (rw (to_here, caller_here, another) refl) (rw shown_here accepted_there)

    no_strings : strings_of Q n ≡ []
    unfolding strings_of
    no_strings = rw here reaches.words_alone

    pub no_bytes : message_size Q n ≡ 0
    unfolding message_size
    no_bytes = rw no_strings refl

    begins_with : meeting Q n r ≡ Began n r
    unfolding meeting
    begins_with = rw no_strings refl

    partner_lives : is_live Q call.to ≡ true
    partner_lives = is_live_push P C call.to refl refl ∙ (ap (is_live P) reaches.to ∙ caller_lives P legal r opened_before)

    -- The rules, in their order: no transfer has to end

    no_end : (k : ℕ) (o : Output) → EndOf Q k o → ⊥
    no_end k o p =
        let transfer = p.1 in
        let pair = (passes_parts Q k p.0 transfer).pair in
        let named : ((k == n) || (p.0 == n)) ≡ true = around_called (Ended k p.0) (Ends k p.0 transfer p.2 refl) in
        elim (or_cases (k == n) (p.0 == n) named) [
          | inl a ↦ none-some p.0 (sym unpaired ∙ (ap (receiver_of Q) (sym (eqb-true k n a)) ∙ pair))
          | inr b ↦ sends_or_takes Q legal_called n k sending_here (subst (λ m. is_transferring Q k m ≡ true) (eqb-true p.0 n b) transfer)
        ]

    none_end : first_some (end_of Q) (numbers Q) ≡ None
    none_end = first_some_none (end_of Q) (numbers Q) (λ k at. absent (end_of Q k) (λ o e. no_end k o (end_is Q k o e)))

    -- no partner is gone

    unreceiving : is_receiving Q n ≡ false
    unreceiving = false_from_ne_true (is_receiving Q n) (λ receives. sends_or_receives Q legal_called n sending_here receives)

    keeps_partner : partner_gone_of Q n ≡ None
    unfolding partner_gone_of partner_gone_code is_send_partner_gone is_receive_partner_gone left_sender_code left_receiver_code
    keeps_partner = rw (sending_here, to_here, caller_here, partner_lives, another, unreceiving, unpaired, unsending) refl

    none_fails : first_some (partner_gone_of Q) (numbers Q) ≡ None
    none_fails = first_some_none (partner_gone_of Q) (numbers Q) (λ k at. absent (partner_gone_of Q k) (λ o e. fails k o e))
      where
        fails : (k : ℕ) (o : Output) → partner_gone_of Q k ≡ Some o → ⊥
        fails k o e =
            let f = failure_is Q k o e in
            let same : k ≡ n = eqb-true k n (around_called (Failed k f.0) f.1) in
            none-some o (sym keeps_partner ∙ subst (λ k. partner_gone_of Q k ≡ Some o) same e)

    -- and the least meeting is its own

    finds : find (matches Q n) (numbers Q) ≡ Some r
    finds = find_only (matches Q n) r (numbers Q) (λ k meets. meets_one Q legal_called n k r meets met) met (any_at (λ k. k == r) (numbers Q) r (number_of_open Q r receiver_opened) (eq-eqb r r refl))

    meets_it : meeting_of Q n ≡ Some (Began n r)
    unfolding meeting_of match_of
    meets_it = rw finds (ap (λ o. Some o) begins_with)

    meets_alone : (k : ℕ) (o : Output) → meeting_of Q k ≡ Some o → o ≡ Began n r
    meets_alone k o e =
        let p = meeting_is Q k o e in
        let m = p.0 in
        let named : ((k == n) || (m == n)) ≡ true = sym (meeting_names Q k m n) ∙ around_called (meeting Q k m) (Meets k m p.1 refl) in
        elim (or_cases (k == n) (m == n) named) [
          | inl a ↦ (
              let same : k ≡ n = eqb-true k n a in
              let its : m ≡ r = meets_one Q legal_called n m r (subst (λ k. matches Q k m ≡ true) same p.1) met in
              p.2 ∙ (ap (λ k. meeting Q k m) same ∙ (ap (meeting Q n) its ∙ begins_with)))
          | inr b ↦ (
              let receives : Receives Q m = (meets_parts Q k m p.1).receives in
              absurd (sends_apart Q legal_called n (sends_parts Q n n sending_here) (subst (λ m. ((to_of Q m == nilthread) || is_sent Q m) ≡ true) (eqb-true m n b) receives.turned)))
        ]

    least_meets : first_some (meeting_of Q) (numbers Q) ≡ Some (Began n r)
    least_meets = first_is (meeting_of Q) (numbers Q) n (Began n r) (number_of_open Q n opened_here) meets_it meets_alone

    pub next_begins : next_output Q ≡ Some (Began n r)
    unfolding stop_after
    next_begins = after_input P (Called n t call) ∙ rw (none_end, none_fails, least_meets) refl
