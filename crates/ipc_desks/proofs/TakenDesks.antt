-- What a thread is told, and what is left when it took it.
use Rattle.std.proofs.lemmas.Bool.{false≢true, ne_eqb, cases_eq, or_cases}
use Rattle.std.proofs.lemmas.Option.{none-some, same_Some, cond_some}
use Rattle.std.proofs.lemmas.List.Folds.{list_any-append}
use Rattle.std.proofs.lemmas.List.Sums.{sum_by_push}
use Rattle.std.proofs.Common.{◌≡◌, ◌≢◌, refl, sym, ap, ◌∙◌, ℕ, ◌+◌, ◌≤◌, add-zero, cond, Bool, true, false, ◌||◌, ◌==◌, not, eqb-true, eq-eqb, if◌then◌else◌, List, [], ◌∷◌, ◌++◌, Option, Some, None, IfSome, option_and_then, unwrap_or, inl, inr, ◌⊎◌, arith}
use Rattle.std.specs.Option.{option_map_or}
use Rattle.ipc_words.specs.ThreadId.{number_of}
use Rattle.ipc_history.specs.Words.{first_some}
use Rattle.ipc_history.specs.Calls.{caller_of, buffers_of}
use Rattle.ipc_history.specs.Threads.{is_live, has_broken}
use Rattle.ipc_history.specs.Phases.{is_over}
use Rattle.ipc_history.specs.Outcomes.{OutcomeParts, end_moment, failure, nothing, outcome_in, outcome_of, received, timed}
use Rattle.ipc_history.specs.Legal.{Legal}
use Rattle.ipc_history.specs.declared.entry.Entry.{Entry}
use Rattle.ipc_laws.proofs.Endings.{live_unbroken}
use Rattle.ipc_history.specs.declared.entry.Entry.TheVariants.{Written}
use Rattle.ipc_history.specs.declared.entry.Output.TheVariants.{Ended, Overflowed, Aborted, Failed}
use Rattle.ipc_laws.proofs.Places.{first_place}
use Rattle.ipc_threads.specs.Slots.{live_of}
use Rattle.ipc_threads.proofs.Holders.{live_of_at, live_of_is}
use Rattle.ipc_desks.specs.CallsOf.{is_among, is_busy, last_call, made_by, outcome_to_take, taken_by, untaken_outcome}
use Rattle.ipc_desks.specs.Desks.{Keeps, blank_desk, desk_at, desk_of, one_if, thread_desk, told_at}
use Rattle.ipc_desks.specs.Steps.{Changed, cleared, is_nothing, is_ready, outcome_in_told, taken_from}
use Rattle.ipc_desks.specs.declared.desk.Desk.{Desk}
use Rattle.ipc_desks.specs.declared.desk.Told.{Told}
use Rattle.ipc_desks.specs.declared.desk.Told.TheVariants.{Nothing, Waiting, Ready}
use Rattle.ipc_desks.proofs.LastCalls.{last_is}
use Rattle.ipc_desks.proofs.DeskSteps.{desk_by}

-- An outcome is that of its call, which is over

told_either : (H : List Entry) (a b : Bool) (n x y : ℕ) (u : OutcomeParts) → (if a then Some (failure n x) else (if b then Some (failure n y) else None)) ≡ Some u → u.call ≡ n
told_either H true b n x y u h = ap (λ o. o.call) (sym (same_Some (failure n x) u h))
told_either H false true n x y u h = ap (λ o. o.call) (sym (same_Some (failure n y) u h))
told_either H false false n x y u h = absurd (none-some u h)

told_call : (H : List Entry) (n : ℕ) (u : OutcomeParts) (e : Entry) → outcome_in H n e ≡ Some u → u.call ≡ n
told_call H n u (Written (Failed k code)) g = ap (λ o. o.call) (sym (cond_some (k == n) (failure n code) u g).1)
told_call H n u (Written (Overflowed k j offset)) g = told_either H (k == n) (j == n) n _ _ u g
told_call H n u (Written (Aborted k j count)) g = told_either H (k == n) (j == n) n _ _ u g
told_call H n u (Written (Ended k j)) g = ap (λ o. o.call) (sym (cond_some (j == n) (received H k n) u g).1)
told_call H n u _ g = absurd (none-some u g)

pub outcome_call : (H : List Entry) (n : ℕ) (o : OutcomeParts) → outcome_of H n ≡ Some o → o.call ≡ n
unfolding outcome_of
outcome_call H n o h = go (not (is_over H n) || has_broken H (caller_of H n)) h
  where
    told : (x : Option OutcomeParts) → first_some (outcome_in H n) H ≡ x → (unwrap_or x (nothing n)).call ≡ n
    told None e = refl
    told (Some u) e = let p = first_place (outcome_in H n) H u e in told_call H n u p.0 p.2

    go : (b : Bool) → (if b then None else Some (timed (end_moment H n) (unwrap_or (first_some (outcome_in H n) H) (nothing n)))) ≡ Some o → o.call ≡ n
    go true g = absurd (none-some o g)
    go false g = ap (λ x. x.call) (sym (same_Some _ o g)) ∙ told (first_some (outcome_in H n) H) refl

outcome_over : (H : List Entry) (n : ℕ) (o : OutcomeParts) → outcome_of H n ≡ Some o → is_over H n ≡ true
unfolding outcome_of
outcome_over H n o h = go (is_over H n) h
  where
    go : (b : Bool) → (if not b || has_broken H (caller_of H n) then None else Some (timed (end_moment H n) (unwrap_or (first_some (outcome_in H n) H) (nothing n)))) ≡ Some o → b ≡ true
    go true g = refl
    go false g = absurd (none-some o g)

-- what is taken is of the last call
pub record TakesLast (P : List Entry) (taken : List ℕ) (t : ℕ) (o : OutcomeParts) : Type 0 where
  pub last : last_call P t ≡ Some o.call
  pub untaken : is_among o.call taken ≡ false
  pub over : is_over P o.call ≡ true

-- The desk of a live thread

module _ (P : List Entry) (legal : Legal P) (taken : List ℕ) (desks : List Desk) (keeps : Keeps P taken desks) (t : ℕ) (live : is_live P t ≡ true) where
  pub desk_is : desk_at desks (number_of t) ≡ thread_desk P taken t
  unfolding desk_of
  desk_is = keeps.table (number_of t) ∙ rw (live_of_at P legal t live) refl

  pub made_is : (desk_at desks (number_of t)).made ≡ made_by P t
  unfolding thread_desk
  made_is = ap (λ d. d.made) desk_is

  pub taken_is : (desk_at desks (number_of t)).taken ≡ taken_by P taken t
  unfolding thread_desk
  taken_is = ap (λ d. d.taken) desk_is

  told_is : (desk_at desks (number_of t)).told ≡ option_map_or (told_at P taken) (last_call P t) Nothing
  unfolding thread_desk
  told_is = ap (λ d. d.told) desk_is

  alive : (n : ℕ) → last_call P t ≡ Some n → has_broken P (caller_of P n) ≡ false
  alive n last = ap (has_broken P) (last_is P legal t n last).0 ∙ live_unbroken P t live

  -- the outcome of a call that is over
  some_outcome : (n : ℕ) → last_call P t ≡ Some n → is_over P n ≡ true → (o : OutcomeParts) × (outcome_of P n ≡ Some o)
  unfolding outcome_of
  some_outcome n last over = (timed (end_moment P n) (unwrap_or (first_some (outcome_in P n) P) (nothing n)), rw (over, alive n last) refl)

  no_outcome : (n : ℕ) → is_over P n ≡ false → outcome_of P n ≡ None
  unfolding outcome_of
  no_outcome n running = rw running refl

  told_case : (n : ℕ) → last_call P t ≡ Some n → (b : Bool) → is_over P n ≡ b → (outcome_in_told (told_at P taken n) ≡ untaken_outcome P taken n) × (is_nothing (told_at P taken n) ≡ is_among n taken)
  told_case n last true over = let o = some_outcome n last over in rw (over, o.1) (go (is_among n taken) o.0)
    where
      go : (a : Bool) (o : OutcomeParts) → (outcome_in_told (if a then Nothing else Ready o) ≡ (if a then None else Some o)) × (is_nothing (if a then Nothing else Ready o) ≡ a)
      go true o = (refl, refl)
      go false o = (refl, refl)
  told_case n last false running = rw (running, no_outcome n running) (go (is_among n taken))
    where
      go : (a : Bool) → (outcome_in_told (if a then Nothing else Waiting n (buffers_of P n)) ≡ (if a then None else None)) × (is_nothing (if a then Nothing else Waiting n (buffers_of P n)) ≡ a)
      go true = (refl, refl)
      go false = (refl, refl)

  pub busy_is : not (is_nothing (desk_at desks (number_of t)).told) ≡ is_busy P taken t
  unfolding is_busy
  busy_is = ap (λ x. not (is_nothing x)) told_is ∙ go (last_call P t) refl
    where
      go : (o : Option ℕ) → last_call P t ≡ o → not (is_nothing (option_map_or (told_at P taken) o Nothing)) ≡ option_map_or (λ n. not (is_among n taken)) o false
      go None e = refl
      go (Some n) e = ap not (told_case n e (is_over P n) refl).1

  pub outcome_is : outcome_in_told (desk_at desks (number_of t)).told ≡ outcome_to_take P taken t
  unfolding outcome_to_take
  outcome_is = ap outcome_in_told told_is ∙ go (last_call P t) refl
    where
      go : (o : Option ℕ) → last_call P t ≡ o → outcome_in_told (option_map_or (told_at P taken) o Nothing) ≡ option_and_then (untaken_outcome P taken) o
      go None e = refl
      go (Some n) e = (told_case n e (is_over P n) refl).0

  -- what is taken is of the last call
  pub taken_last : (o : OutcomeParts) → outcome_to_take P taken t ≡ Some o → TakesLast P taken t o
  unfolding outcome_to_take
  taken_last o h = go (last_call P t) refl h
    where
      call : (n : ℕ) → last_call P t ≡ Some n → (a : Bool) → is_among n taken ≡ a → (if a then None else outcome_of P n) ≡ Some o → TakesLast P taken t o
      call n last true among g = absurd (none-some o g)
      call n last false among g =
          let same = outcome_call P n o g in
          record { last = rw same last; untaken = rw same among; over = rw same (outcome_over P n o g) }

      go : (x : Option ℕ) → last_call P t ≡ x → option_and_then (untaken_outcome P taken) x ≡ Some o → TakesLast P taken t o
      go None e g = absurd (none-some o g)
      go (Some n) e g = call n e (is_among n taken) refl g

  ready_told : (told : Told) (o : OutcomeParts) → outcome_in_told told ≡ Some o → is_ready told ≡ true
  ready_told Nothing o h = absurd (none-some o h)
  ready_told (Waiting k buffers) o h = absurd (none-some o h)
  ready_told (Ready x) o h = refl

  unready_told : (told : Told) → outcome_in_told told ≡ None → is_ready told ≡ false
  unready_told Nothing h = refl
  unready_told (Waiting k buffers) h = refl
  unready_told (Ready x) h = absurd (none-some x (sym h))

  ready_busy : (told : Told) → is_ready told ≡ true → is_nothing told ≡ false
  ready_busy Nothing h = absurd (false≢true h)
  ready_busy (Waiting k buffers) h = refl
  ready_busy (Ready x) h = refl

  -- where an outcome is ready, fewer were taken than calls made
  pub ready_fewer : is_ready (desk_at desks (number_of t)).told ≡ true → (desk_at desks (number_of t)).taken + 1 ≤ made_by P t
  ready_fewer ready =
      let busy : is_busy P taken t ≡ true = sym busy_is ∙ rw (ready_busy _ ready) refl in
      omega (arith, taken_is, keeps.counted t, one_busy busy)
    where
      one_busy : is_busy P taken t ≡ true → one_if (is_busy P taken t) ≡ 1
      one_busy h = rw h refl

  -- nothing changes where none is ready
  pub none_taken : (new : List Desk) → Changed (number_of t) taken_from desks new → outcome_in_told (desk_at desks (number_of t)).told ≡ None → Keeps P taken new
  none_taken new changed none = record {
    size = changed.size ∙ keeps.size;
    table = λ k. elim (cases_eq k (number_of t)) [ inl is ↦ rw is (changed.here ∙ (rw (unready_told _ none) refl ∙ keeps.table (number_of t))) | inr p ↦ changed.beside k p ∙ keeps.table k ];
    called = keeps.called;
    over = keeps.over;
    counted = keeps.counted;
  }

  module _ (o : OutcomeParts) (takes : TakesLast P taken t o) where
    abbrev n : ℕ
    n = o.call

    abbrev more : List ℕ
    more = taken ++ o.call ∷ []

    among_more : (k : ℕ) → is_among k more ≡ (is_among k taken || (n == k))
    among_more k = list_any-append (λ j. j == k) taken (n ∷ []) ∙ or_last (is_among k taken) (n == k)
      where
        or_last : (a b : Bool) → (a || (b || false)) ≡ (a || b)
        or_last a b = grind arith

    among_now : is_among n more ≡ true
    among_now = among_more n ∙ rw (eq-eqb n n refl) (or_true (is_among n taken))
      where
        or_true : (b : Bool) → (b || true) ≡ true
        or_true true = refl
        or_true false = refl

    among_other : (k : ℕ) → n ≢ k → is_among k more ≡ is_among k taken
    among_other k apart = among_more k ∙ rw (ne_eqb n k apart) (or_no (is_among k taken))
      where
        or_no : (b : Bool) → (b || false) ≡ b
        or_no true = refl
        or_no false = refl

    caller_is : caller_of P n ≡ t
    caller_is = (last_is P legal t n takes.last).0

    taken_more : (u : ℕ) → taken_by P more u ≡ taken_by P taken u + cond (caller_of P n == u) 1 0
    unfolding taken_by
    taken_more u = sum_by_push (λ k. cond (caller_of P k == u) 1 0) taken n

    taken_itself : taken_by P more t ≡ taken_by P taken t + 1
    taken_itself = taken_more t ∙ rw (caller_is, eq-eqb t t refl) refl

    taken_other : (u : ℕ) → t ≢ u → taken_by P more u ≡ taken_by P taken u
    taken_other u apart = taken_more u ∙ rw (caller_is, ne_eqb t u apart) (add-zero (taken_by P taken u))

    last_other : (u k : ℕ) → t ≢ u → last_call P u ≡ Some k → n ≢ k
    last_other u k apart last same = apart (sym caller_is ∙ (ap (caller_of P) same ∙ (last_is P legal u k last).0))

    desk_itself : thread_desk P more t ≡ cleared (thread_desk P taken t)
    unfolding thread_desk
    desk_itself = rw (takes.last, among_now, taken_itself) refl

    desk_other : (u : ℕ) → t ≢ u → thread_desk P more u ≡ thread_desk P taken u
    unfolding thread_desk
    desk_other u apart = rw (taken_other u apart) (go (last_call P u) refl)
      where
        go : (x : Option ℕ) → last_call P u ≡ x → desk_by P more x (made_by P u) (taken_by P taken u) ≡ desk_by P taken x (made_by P u) (taken_by P taken u)
        go None e = refl
        go (Some k) e = rw (among_other k (last_other u k apart e)) refl

    table_itself : desk_of P more (number_of t) ≡ cleared (desk_of P taken (number_of t))
    unfolding desk_of
    table_itself = rw (live_of_at P legal t live) desk_itself

    table_other : (k : ℕ) → number_of t ≢ k → desk_of P more k ≡ desk_of P taken k
    unfolding desk_of
    table_other k apart = go (live_of P k) refl
      where
        go : (x : Option ℕ) → live_of P k ≡ x → option_map_or (thread_desk P more) x blank_desk ≡ option_map_or (thread_desk P taken) x blank_desk
        go None e = refl
        go (Some u) e = desk_other u (λ same. apart (ap number_of same ∙ (live_of_is P k u e).number))

    busy_itself : is_busy P more t ≡ false
    unfolding is_busy
    busy_itself = rw (takes.last, among_now) refl

    busy_other : (u : ℕ) → t ≢ u → is_busy P more u ≡ is_busy P taken u
    unfolding is_busy
    busy_other u apart = go (last_call P u) refl
      where
        go : (x : Option ℕ) → last_call P u ≡ x → option_map_or (λ k. not (is_among k more)) x false ≡ option_map_or (λ k. not (is_among k taken)) x false
        go None e = refl
        go (Some k) e = ap not (among_other k (last_other u k apart e))

    busy_before : is_busy P taken t ≡ true
    unfolding is_busy
    busy_before = rw (takes.last, takes.untaken) refl

    which : (k : ℕ) → is_among k more ≡ true → (is_among k taken ≡ true) ⊎ (n ≡ k)
    which k among = elim (or_cases _ _ (sym (among_more k) ∙ among)) [ inl a ↦ inl a | inr b ↦ inr (eqb-true n k b) ]

    counted_now : (u : ℕ) → taken_by P more u + one_if (is_busy P more u) ≡ made_by P u
    counted_now u = elim (cases_eq t u) [
      | inl same ↦ rw (← same) (rw (taken_itself, busy_itself) (omega (arith, keeps.counted t, one_busy busy_before)))
      | inr apart ↦ rw (taken_other u apart, busy_other u apart) (keeps.counted u)
    ]
      where
        one_busy : is_busy P taken t ≡ true → one_if (is_busy P taken t) ≡ 1
        one_busy h = rw h refl

    pub taken_keeps : (new : List Desk) → Changed (number_of t) taken_from desks new → outcome_in_told (desk_at desks (number_of t)).told ≡ Some o → Keeps P more new
    taken_keeps new changed ready = record {
      size = changed.size ∙ keeps.size;
      table = λ k. elim (cases_eq k (number_of t)) [ inl is ↦ rw is (changed.here ∙ (rw (ready_told _ o ready) refl ∙ (ap cleared (keeps.table (number_of t)) ∙ sym table_itself))) | inr p ↦ changed.beside k p ∙ (keeps.table k ∙ sym (table_other k (λ g. p (sym g)))) ];
      called = λ k among. elim (which k among) [ inl a ↦ keeps.called k a | inr same ↦ rw (← same) (last_is P legal t n takes.last).1 ];
      over = λ k among. elim (which k among) [ inl a ↦ keeps.over k a | inr same ↦ rw (← same) takes.over ];
      counted = counted_now;
    }

  -- as the caller is answered
  pub told_last : (o : Option OutcomeParts) → outcome_to_take P taken t ≡ o → IfSome o (λ x. last_call P t ≡ Some x.call)
  told_last None h = tt
  told_last (Some x) h = (taken_last x h).last

  pub told_keeps : (new : List Desk) → Changed (number_of t) taken_from desks new → (o : Option OutcomeParts) → outcome_to_take P taken t ≡ o → IfSome o (λ x. Keeps P (taken ++ x.call ∷ []) new)
  told_keeps new changed None h = tt
  told_keeps new changed (Some x) h = taken_keeps x (taken_last x h) new changed (outcome_is ∙ h)
