-- What a call that is entered makes of the desks.
use Rattle.std.proofs.lemmas.Bool.{false≢true, false_from_ne_true, ne_eqb, cases_eq}
use Rattle.std.proofs.Common.{◌≡◌, ◌≢◌, refl, sym, ap, ◌∙◌, ℕ, ◌+◌, ◌<◌, ◌^◌, add-zero, Bool, true, false, ◌||◌, ◌&&◌, ◌==◌, not, eq-eqb, if◌then◌else◌, List, [], ◌∷◌, ◌++◌, Option, Some, None, unwrap_or, inl, inr, arith}
use Rattle.std.specs.List.{list_any}
use Rattle.std.specs.Option.{option_map_or}
use Rattle.ipc_words.specs.ThreadId.{nilthread, number_of}
use Rattle.ipc_history.specs.CallParts.{CallParts}
use Rattle.ipc_history.specs.Entries.{names, calls, closes, ends_send}
use Rattle.ipc_history.specs.Calls.{is_called, caller_of, to_of, from_of, tag_of, originator_of, words_of, strings_of, buffers_of}
use Rattle.ipc_history.specs.Threads.{is_live, has_broken, now}
use Rattle.ipc_history.specs.Phases.{is_sent, is_over}
use Rattle.ipc_history.specs.Outcomes.{nothing, outcome_of, timed}
use Rattle.ipc_history.specs.Legal.{Legal, Follows}
use Rattle.ipc_history.specs.declared.entry.Entry.{Entry}
use Rattle.ipc_history.specs.declared.entry.Entry.TheVariants.{Given, Written}
use Rattle.ipc_history.specs.declared.entry.Input.TheVariants.{Called}
use Rattle.ipc_history.specs.declared.entry.Output.TheVariants.{Ended}
use Rattle.ipc_laws.proofs.Changing.{any_push}
use Rattle.ipc_laws.proofs.Endings.{closes_names, live_unbroken}
use Rattle.ipc_laws.proofs.EndMoments.{end_moment_at_once}
use Rattle.ipc_laws.proofs.Growth.{caller_of_kept, is_called_kept, open_is_called, over_kept}
use Rattle.ipc_laws.proofs.Histories.{follows_at, named_open}
use Rattle.ipc_laws.proofs.Numbering.{calls_called, entered as entered_free}
use Rattle.ipc_laws.proofs.OneOpen.{caller_at, free_parts}
use Rattle.ipc_laws.proofs.Places.{any_at, any_place}
use Rattle.ipc_laws.proofs.Tests.{not_both}
use Rattle.ipc_laws.proofs.ThreadChanges.{has_broken_push, is_live_push}
use Rattle.ipc_laws.proofs.Told.{told_none}
use Rattle.ipc_threads.specs.Slots.{live_of}
use Rattle.ipc_threads.proofs.Holders.{live_of_at, live_of_is}
use Rattle.ipc_threads.proofs.SlotSteps.{live_kept}
use Rattle.ipc_desks.specs.CallsOf.{is_among, is_busy, last_call, made_by, taken_by}
use Rattle.ipc_desks.specs.Desks.{Keeps, blank_desk, desk_at, desk_of, is_unsent, message_at, one_if, thread_desk, told_at}
use Rattle.ipc_desks.specs.Finishes.{ends_call, finishes, is_named}
use Rattle.ipc_desks.specs.Messages.{message_in, message_of, prepared}
use Rattle.ipc_desks.specs.Steps.{Changed, entered, entered_told}
use Rattle.ipc_desks.specs.declared.desk.Desk.{Desk}
use Rattle.ipc_desks.specs.declared.desk.Told.TheVariants.{Nothing, Waiting, Ready}
use Rattle.ipc_desks.proofs.LastCalls.{absent, last_is, last_push, made_push, made_within, new_call_at}
use Rattle.ipc_desks.proofs.CallDesks.{over_same}
use Rattle.ipc_desks.proofs.DeskSteps.{taken_by_same, thread_desk_same}
use Rattle.ipc_laws.proofs.Calling.{bool_cases}

sends_named : (n : ℕ) (e : Entry) → ends_send n e ≡ true → names n e ≡ true
sends_named n (Written (Ended k m)) h = rw h refl
sends_named n _ h = absurd (false≢true h)

module _ (P : List Entry) (n t : ℕ) (call : CallParts) (legal : Legal P) (follows : Follows P (Given (Called n t call))) where
  abbrev e : Entry
  e = Given (Called n t call)

  abbrev Q : List Entry
  Q = P ++ Given (Called n t call) ∷ []

  pub alive : is_live P t ≡ true
  unfolding Follows
  alive = (free_parts P t (entered_free P n t call follows.1).0).0

  uncalled : is_called P n ≡ false
  unfolding Follows
  uncalled = absent P n t call legal follows.1

  -- no entry before it names it
  unnamed : list_any (names n) P ≡ false
  unnamed = false_from_ne_true _ (λ named.
      let p = any_place (names n) P named in
      let f = follows_at P legal p.0 p.1 in
      not_both (elim (bool_cases (calls n p.0)) [
        | inl enters ↦ calls_called P n (any_at (calls n) P p.0 p.1 enters)
        | inr other ↦ rw p.1.whole (is_called_kept p.1.front (p.0 ∷ p.1.rest) n (open_is_called p.1.front n (named_open p.1.front p.0 f n p.2 other)))
      ]) uncalled)

  here : caller_of Q n ≡ t
  here = caller_at Q n t call (new_call_at P n t call uncalled)

  unsent : is_sent Q n ≡ false
  unfolding is_sent
  unsent = any_push (ends_send n) P e ∙ rw (false_from_ne_true (list_any (ends_send n) P) (λ some. let p = any_place (ends_send n) P some in not_both (any_at (names n) P p.0 p.1 (sends_named n p.0 p.2)) unnamed)) refl

  unclosed : list_any (closes n) Q ≡ false
  unclosed = any_push (closes n) P e ∙ rw (false_from_ne_true (list_any (closes n) P) (λ some. let p = any_place (closes n) P some in not_both (any_at (names n) P p.0 p.1 (closes_names n p.0 p.2).0) unnamed)) refl

  unbroken : has_broken Q t ≡ false
  unbroken = has_broken_push P e t refl ∙ live_unbroken P t alive

  over : is_over Q n ≡ ((call.from == nilthread) && (call.to == nilthread))
  unfolding is_over from_of to_of
  over = rw (unclosed, here, unbroken, new_call_at P n t call uncalled, unsent) refl

  untaken : (taken : List ℕ) → ((k : ℕ) → is_among k taken ≡ true → is_called P k ≡ true) → is_among n taken ≡ false
  untaken taken called = false_from_ne_true _ (λ among. not_both (called n among) uncalled)

  there : is_called Q n ≡ true
  unfolding is_called
  there = rw (new_call_at P n t call uncalled) refl

  told : is_over Q n ≡ true → outcome_of Q n ≡ Some (timed (now P) (nothing n))
  unfolding outcome_of
  told o = rw (end_moment_at_once P e n unnamed there (ap (has_broken Q) here ∙ unbroken) o, o, here, unbroken, told_none Q n Q unclosed) refl

  told_now : (taken : List ℕ) → ((k : ℕ) → is_among k taken ≡ true → is_called P k ≡ true) → told_at Q taken n ≡ entered_told (now P) n call (unwrap_or call.buffers [])
  unfolding buffers_of
  told_now taken called = rw (untaken taken called, new_call_at P n t call uncalled) (go (is_over Q n) refl ((call.from == nilthread) && (call.to == nilthread)) over)
    where
      go : (a : Bool) → is_over Q n ≡ a → (b : Bool) → is_over Q n ≡ b → (if a then option_map_or (λ o. Ready o) (outcome_of Q n) Nothing else Waiting n (unwrap_or call.buffers [])) ≡ (if b then Ready (timed (now P) (nothing n)) else Waiting n (unwrap_or call.buffers []))
      go true o true p = ap (λ x. option_map_or (λ o. Ready o) x Nothing) (told o)
      go false o false p = refl
      go true o false p = not_both o p
      go false o true p = not_both p o

  message_now : message_at Q n ≡ (if call.to == nilthread then None else Some (message_in call))
  unfolding is_unsent message_of tag_of originator_of words_of strings_of to_of
  message_now = rw (over, unsent, new_call_at P n t call uncalled) (go (call.from == nilthread) (call.to == nilthread))
    where
      go : (a b : Bool) → (if not ((a && b) || false || b) then Some (message_in call) else None) ≡ (if b then None else Some (message_in call))
      go a true = rw (or_true (a && true)) refl
        where
          or_true : (x : Bool) → (x || false || true) ≡ true
          or_true x = grind arith
      go true false = refl
      go false false = refl

  last_now : last_call Q t ≡ Some n
  last_now = last_push P e t ∙ rw (eq-eqb t t refl) refl

  made_now : made_by Q t ≡ made_by P t + 1
  made_now = made_push P e t ∙ rw (eq-eqb t t refl) refl

  last_other : (u : ℕ) → t ≢ u → last_call Q u ≡ last_call P u
  last_other u apart = last_push P e u ∙ rw (ne_eqb t u apart) refl

  made_other : (u : ℕ) → t ≢ u → made_by Q u ≡ made_by P u
  made_other u apart = made_push P e u ∙ rw (ne_eqb t u apart) (add-zero (made_by P u))

  lives : (k : ℕ) → live_of Q k ≡ live_of P k
  lives k = live_kept P e k refl (λ u h. is_live_push P e u refl refl)

  module _ (taken : List ℕ) (called : (k : ℕ) → is_among k taken ≡ true → is_called P k ≡ true) where
    took : (u : ℕ) → taken_by Q taken u ≡ taken_by P taken u
    took u = taken_by_same P Q taken u (λ k among. caller_of_kept P (e ∷ []) k (called k among))

    desk_called : desk_of Q taken (number_of t) ≡ entered (now P) n call (prepared call) (desk_of P taken (number_of t))
    unfolding desk_of thread_desk
    desk_called = rw (lives (number_of t), live_of_at P legal t alive, last_now, made_now, took t, message_now, told_now taken called) refl

    desk_beside : (k : ℕ) → number_of t ≢ k → desk_of Q taken k ≡ desk_of P taken k
    unfolding desk_of
    desk_beside k apart = rw (lives k) (go (live_of P k) refl)
      where
        go : (o : Option ℕ) → live_of P k ≡ o → option_map_or (thread_desk Q taken) o blank_desk ≡ option_map_or (thread_desk P taken) o blank_desk
        go None h = refl
        go (Some u) h =
            let is = live_of_is P k u h in
            let other : t ≢ u = λ same. apart (ap number_of same ∙ is.number) in
            thread_desk_same P e legal follows taken u is.live refl (last_other u other) (made_other u other) (took u) (λ k l. (refl, refl))

    none_busy : is_busy P taken t ≡ false → one_if (is_busy P taken t) ≡ 0
    none_busy idle = rw idle refl

    counted_now : is_busy P taken t ≡ false → ((u : ℕ) → taken_by P taken u + one_if (is_busy P taken u) ≡ made_by P u) → (u : ℕ) → taken_by Q taken u + one_if (is_busy Q taken u) ≡ made_by Q u
    unfolding is_busy
    counted_now idle counted u = elim (cases_eq t u) [
      | inl same ↦ rw (← same) (rw (took t, last_now, made_now, untaken taken called) (omega (arith, counted t, none_busy idle)))
      | inr other ↦ rw (took u, last_other u other, made_other u other) (counted u)
    ]

    pub called_keeps : is_busy P taken t ≡ false → (old new : List Desk) → Keeps P taken old → Changed (number_of t) (entered (now P) n call (prepared call)) old new → Keeps Q taken new
    called_keeps idle old new keeps changed = record {
      size = changed.size ∙ keeps.size;
      table = λ k. elim (cases_eq k (number_of t)) [ inl is ↦ rw is (changed.here ∙ (ap (entered (now P) n call (prepared call)) (keeps.table (number_of t)) ∙ sym desk_called)) | inr p ↦ changed.beside k p ∙ (keeps.table k ∙ sym (desk_beside k (λ g. p (sym g)))) ];
      called = λ k among. is_called_kept P (e ∷ []) k (keeps.called k among);
      over = λ k among. over_kept P (e ∷ []) k (keeps.called k among) (keeps.over k among);
      counted = counted_now idle keeps.counted;
    }

  -- what it ends
  ended_itself : ends_call P e n ≡ ((call.from == nilthread) && (call.to == nilthread))
  unfolding ends_call
  ended_itself = rw (over, eq-eqb n n refl) (go ((call.from == nilthread) && (call.to == nilthread)))
    where
      go : (b : Bool) → (b && true) ≡ b
      go true = refl
      go false = refl

  ends_none : (k : ℕ) → is_called P k ≡ true → (n ≡ k → ⊥) → ends_call P e k ≡ false
  unfolding ends_call
  ends_none k c other = rw (over_same P e legal follows k c refl refl refl, ne_eqb n k other) (never (is_over P k))
    where
      never : (b : Bool) → (b && (false || not b)) ≡ false
      never true = refl
      never false = refl

  pub called_finishes : (u : ℕ) → (((call.from == nilthread) && (call.to == nilthread)) && (t == u)) ≡ finishes P e u
  unfolding finishes
  called_finishes u = elim (cases_eq t u) [ inl same ↦ rw (← same) itself | inr other ↦ rw (ne_eqb t u other) (no_other other) ]
    where
      both_true : (a : Bool) → (a && true) ≡ (true && a)
      both_true true = refl
      both_true false = refl

      itself : (((call.from == nilthread) && (call.to == nilthread)) && (t == t)) ≡ (is_live Q t && option_map_or (ends_call P e) (last_call Q t) false)
      itself = rw (eq-eqb t t refl, is_live_push P e t refl refl, alive, last_now, ended_itself) (both_true ((call.from == nilthread) && (call.to == nilthread)))

      old_over : (k : ℕ) → last_call P u ≡ Some k → ends_call P e k ≡ false
      old_over k l = ends_none k (last_is P legal u k l).1 (λ is. not_both (last_is P legal u k l).1 (rw (sym is) uncalled))

      none_ends : (o : Option ℕ) → last_call P u ≡ o → option_map_or (ends_call P e) o false ≡ false
      none_ends None h = refl
      none_ends (Some k) h = old_over k h

      no_other : t ≢ u → (((call.from == nilthread) && (call.to == nilthread)) && false) ≡ (is_live Q u && option_map_or (ends_call P e) (last_call Q u) false)
      no_other other = rw (last_other u other, none_ends (last_call P u) refl) (both_false ((call.from == nilthread) && (call.to == nilthread)) (is_live Q u))
        where
          both_false : (a b : Bool) → (a && false) ≡ (b && false)
          both_false a b = grind arith

-- its number is one more than there were calls, so its caller made fewer than 2^64
pub made_fits : (P : List Entry) (old : List Desk) (taken : List ℕ) (n t : ℕ) (call : CallParts) → Legal P → Follows P (Given (Called n t call)) → Keeps P taken old → n < 2 ^ 64 → (desk_at old (number_of t)).made + 1 < 2 ^ 64
unfolding Follows desk_of thread_desk
made_fits P old taken n t call legal follows keeps fits =
    let made : (desk_at old (number_of t)).made ≡ made_by P t = ap (λ d. d.made) (keeps.table (number_of t)) ∙ rw (live_of_at P legal t (free_parts P t (entered_free P n t call follows.1).0).0) refl in
    omega (arith, made, made_within P t, (entered_free P n t call follows.1).1, fits)

-- who is named where a call is over at once
pub named_once : (b : Bool) (t u : ℕ) → is_named (record { first = if b then Some t else None; second = None }) u ≡ (b && (t == u))
named_once true t u = or_no (t == u)
  where
    or_no : (b : Bool) → (b || false) ≡ b
    or_no true = refl
    or_no false = refl
named_once false t u = refl
