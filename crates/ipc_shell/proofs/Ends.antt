-- The takes at the end of a script.
use Rattle.std.proofs.Common.{◌≡◌, refl, sym, ap, subst, ◌∙◌, ℕ, ◌+◌, ◌≤◌, ◌<◌, Bool, true, false, not, ◌&&◌, ◌||◌, ◌==◌, eq-eqb}
use Rattle.std.proofs.Common.{eqb-true, List, [], ◌∷◌, ◌++◌, append_assoc, Option, Some, None, arith}
use Rattle.std.specs.List.{list_any}
use Rattle.std.specs.Option.{option_or}
use Rattle.std.proofs.lemmas.Bool.{false≢true, false_from_ne_true}
use Rattle.std.proofs.lemmas.Option.{same_Some}
use Rattle.std.proofs.lemmas.List.Folds.{list_any-append}
use Rattle.ipc_words.specs.ThreadId.{nilthread}
use Rattle.ipc_history.specs.CallParts.{CallParts}
use Rattle.ipc_history.specs.Calls.{call_at, caller_of, calls_made, from_of, is_called, to_of}
use Rattle.ipc_history.specs.Entries.{breaks, closes, ends_send, number_by}
use Rattle.ipc_history.specs.Legal.{Legal, is_free, is_admissible}
use Rattle.ipc_history.specs.Outcomes.{OutcomeParts}
use Rattle.ipc_history.specs.Phases.{is_over, is_sent}
use Rattle.ipc_history.specs.Threads.{has_broken, is_live, was_opened}
use Rattle.ipc_history.specs.Words.{last_some}
use Rattle.ipc_history.specs.declared.entry.Entry.{Entry}
use Rattle.ipc_history.specs.declared.entry.Entry.TheVariants.{Given, Written}
use Rattle.ipc_history.specs.declared.entry.Input.TheVariants as input
use Rattle.ipc_laws.proofs.Growth.{call_at_kept, is_called_kept}
use Rattle.ipc_laws.proofs.Histories.{legal_front}
use Rattle.ipc_laws.proofs.Numbering.{called_below, calls_called}
use Rattle.ipc_laws.proofs.OneOpen.{caller_at, free_parts}
use Rattle.ipc_laws.proofs.Tests.{neither_left, neither_right, not_both, refuted, right}
use Rattle.ipc_core.specs.KernelParts.{KernelParts}
use Rattle.ipc_core.specs.Outcomes.{has_untaken, outcome_to_take}
use Rattle.ipc_core.specs.declared.command.Command.{Command}
use Rattle.ipc_core.specs.declared.command.Command.TheVariants.{Take}
use Rattle.ipc_core.proofs.BusyLaws.{no_call, busy_is}
use Rattle.ipc_core.proofs.IdleLaws.{idle_has_nothing}
use Rattle.ipc_desks.specs.CallsOf.{last_call}
use Rattle.ipc_desks.proofs.LastCalls.{last_push, new_call_at}
use Rattle.ipc_shell.specs.Script.{is_act, is_call, is_done, is_left, is_untaken, last_take, last_takes, take_if}
use Rattle.ipc_shell.proofs.Untaken.{untaken_last, untaken_more, untaken_none}
use Rattle.ipc_shell.proofs.Fronts.{follows_next, given_parts}
use Rattle.ipc_shell.proofs.Runs.{Leads, leads_append, leads_none, leads_one}
use Rattle.ipc_shell.proofs.Stages.{Stage}
use Rattle.ipc_shell.proofs.Steps.{call_parts}
use Rattle.ipc_shell.proofs.Takes.{HasLast, has_last, not_over, take_done, take_obeys, to_take, took, took_has_none, took_others}
use Rattle.ipc_shell.proofs.Takes.{took_others_take, took_stage}

-- who has nothing that was not taken has nothing to take
nothing_left : (k : KernelParts) (t : ℕ) (entries_limit calls_limit : ℕ) → Stage entries_limit calls_limit k → has_untaken k t ≡ false
    → outcome_to_take k t ≡ None
nothing_left k t entries_limit calls_limit stage none = idle_has_nothing k t (busy_is k t stage.sound ∙ none)

-- entries that are no acts of a thread are no calls and no end of it
no_numbers : (rest : List Entry) (t : ℕ) → list_any (is_act t) rest ≡ false → last_some (number_by t) rest ≡ None
no_numbers [] t none = refl
no_numbers (e ∷ rest) t none =
    ap (λ o. option_or o (number_by t e)) (no_numbers rest t (neither_right (is_act t e) _ none))
    ∙ one e (neither_left (is_act t e) _ none)
  where
    one : (e : Entry) → is_act t e ≡ false → number_by t e ≡ None
    one (Given (input.Called n caller call)) other = rw other refl
    one _ other = refl

no_ends : (rest : List Entry) (t : ℕ) → list_any (is_act t) rest ≡ false → list_any (breaks t) rest ≡ false
no_ends [] t none = refl
no_ends (e ∷ rest) t none = rw (one e (neither_left (is_act t e) _ none), no_ends rest t (neither_right (is_act t e) _ none)) refl
  where
    one : (e : Entry) → is_act t e ≡ false → breaks t e ≡ false
    one (Given (input.Broke thread)) other = other
    one _ other = refl

-- a call behind which its caller did nothing more: it is the last one, and its caller has not ended
module _ (front rest : List Entry) (n caller : ℕ) (call : CallParts) where
  abbrev e : Entry
  e = Given (input.Called n caller call)

  abbrev H : List Entry
  H = front ++ e ∷ rest

  module _ (legal : Legal H) (alone : list_any (is_act caller) rest ≡ false) where
    split : (front ++ e ∷ []) ++ rest ≡ H
    split = append_assoc front (e ∷ []) rest

    parts : (is_free front caller ≡ true) × (n ≡ calls_made front + 1)
    parts = call_parts front n caller call (given_parts front (input.Called n caller call) (follows_next front e rest legal)).1

    fresh : is_called front n ≡ false
    fresh = false_from_ne_true _
        (λ called. absurd (let below = called_below front (legal_front front (e ∷ rest) legal) n called in omega (arith, below, parts.1)))

    at_push : call_at (front ++ e ∷ []) n ≡ Some (caller, call)
    at_push = new_call_at front n caller call fresh

    called_push : is_called (front ++ e ∷ []) n ≡ true
    unfolding is_called
    called_push = rw at_push refl

    call_is : call_at H n ≡ Some (caller, call)
    call_is = ap (λ l. call_at l n) (sym split) ∙ (call_at_kept (front ++ e ∷ []) rest n called_push ∙ at_push)

    pub last_is_call : last_call H caller ≡ Some n
    last_is_call =
        ap (λ l. last_call l caller) (sym split)
        ∙ (no_call (front ++ e ∷ []) rest caller (no_numbers rest caller alone)
        ∙ (last_push front e caller ∙ rw (eq-eqb caller caller refl) refl))

    unbroken : has_broken H caller ≡ false
    unfolding has_broken is_live
    unbroken =
        list_any-append (breaks caller) front (e ∷ rest)
        ∙ rw (
          refuted (list_any (breaks caller) front) (right (was_opened front caller) _ (free_parts front caller parts.0).0),
          no_ends
              rest caller alone,
        ) refl

    -- so it is over where the script says so
    pub over_is : is_over H n ≡ is_done H n call
    unfolding is_over from_of to_of is_sent
    over_is =
        rw (ap (has_broken H) (caller_at H n caller call call_is) ∙ unbroken, call_is)
        (go (list_any (closes n) H) (call.from == nilthread) (list_any (ends_send n) H) (call.to == nilthread))
      where
        go : (a b c d : Bool) → (a || false || (b && (c || d))) ≡ (a || (b && (d || c)))
        go a b c d = grind arith

module _ (entries_limit calls_limit : ℕ) (H : List Entry) (legal : Legal H) where
  -- a kernel with this history, for whose threads the entries behind a place say what is left to
  -- take
  pub record Left (rest : List Entry) (k : KernelParts) : Type 0 where
    pub stage : Stage entries_limit calls_limit k
    pub history : k.history ≡ H
    pub mine : (t : ℕ) → list_any (is_act t) rest ≡ true → has_untaken k t ≡ is_untaken H t
    pub none : (t : ℕ) → list_any (is_act t) rest ≡ false → outcome_to_take k t ≡ None

  -- where an entry brings no take
  module _ (front rest : List Entry) (e : Entry) (k : KernelParts) (whole : H ≡ front ++ e ∷ rest) (left : Left (e ∷ rest) k) where
    acts_later : (t : ℕ) → list_any (is_act t) rest ≡ true → list_any (is_act t) (e ∷ rest) ≡ true
    acts_later t acts = rw acts (or_true (is_act t e))
      where
        or_true : (b : Bool) → (b || true) ≡ true
        or_true true = refl
        or_true false = refl

    acts_here : (t : ℕ) → is_act t e ≡ true → list_any (is_act t) (e ∷ rest) ≡ true
    acts_here t acts = rw acts refl

    skip : ((t : ℕ) → is_act t e ≡ true → list_any (is_act t) rest ≡ false → outcome_to_take k t ≡ None) → Left rest k
    skip here = record {
      stage = left.stage;
      history = left.history;
      mine = λ t acts. left.mine t (acts_later t acts);
      none = λ t alone. go t (is_act t e) refl alone;
    }
      where
        go : (t : ℕ) (b : Bool) → is_act t e ≡ b → list_any (is_act t) rest ≡ false → outcome_to_take k t ≡ None
        go t true acts alone = here t acts alone
        go t false other alone = left.none t (rw (other, alone) refl)

    -- an act that is no call
    pub skip_act : is_call e ≡ false → Left rest k
    skip_act uncalled = skip (λ t acts alone.
        nothing_left k t entries_limit calls_limit left.stage
        (left.mine t (acts_here t acts) ∙ (ap (λ H. is_untaken H t) whole ∙ (untaken_last front rest e t acts alone ∙ uncalled))))

  -- at a call
  module _ (front rest : List Entry) (n caller : ℕ) (call : CallParts) (k : KernelParts)
      (whole : H ≡ front ++ Given (input.Called n caller call) ∷ rest) (left : Left (Given (input.Called n caller call) ∷ rest) k) where
    abbrev entry : Entry
    entry = Given (input.Called n caller call)

    is_last : list_any (is_act caller) rest ≡ false → last_call k.history caller ≡ Some n
    is_last alone =
        ap (λ l. last_call l caller) (left.history ∙ whole) ∙ last_is_call front rest n caller call (subst Legal whole legal) alone

    is_over_by : list_any (is_act caller) rest ≡ false → is_over k.history n ≡ is_done H n call
    is_over_by alone =
        ap (λ l. is_over l n) (left.history ∙ whole)
        ∙ (over_is front rest n caller call (subst Legal whole legal) alone ∙ ap (λ l. is_done l n call) (sym whole))

    -- whose outcome is left
    taken : list_any (is_act caller) rest ≡ false → is_done H n call ≡ true → Leads k (Take caller ∷ []) (Left rest)
    taken alone done =
        leads_one k (took k caller) (Take caller) _ (Left rest) (take_obeys k caller) (take_done k caller told.0 told.1) (record {
          stage = took_stage k caller left.stage.sound entries_limit calls_limit left.stage;
          history = left.history;
          mine = λ t acts. took_others k caller left.stage.sound t (apart t acts)
              ∙ left.mine t (acts_later front rest entry k whole left t acts);
          none = λ t alone. go t (caller == t) refl alone;
        })
      where
        some : has_untaken k caller ≡ true
        some = left.mine caller (acts_here front rest entry k whole left caller (eq-eqb caller caller refl))
            ∙ (ap (λ H. is_untaken H caller) whole ∙ untaken_last front rest entry caller (eq-eqb caller caller refl) alone)

        own : HasLast k caller
        own = has_last k caller some

        number : own.number ≡ n
        number = same_Some own.number n (sym own.last ∙ is_last alone)

        told : (o : OutcomeParts) × (outcome_to_take k caller ≡ Some o)
        told = to_take k caller left.stage.sound own (ap (is_over k.history) number ∙ (is_over_by alone ∙ done))

        apart : (t : ℕ) → list_any (is_act t) rest ≡ true → (caller == t) ≡ false
        apart t acts =
            false_from_ne_true _ (λ same. not_both acts (ap (λ t. list_any (is_act t) rest) (sym (eqb-true caller t same)) ∙ alone))

        go : (t : ℕ) (b : Bool) → (caller == t) ≡ b → list_any (is_act t) rest ≡ false → outcome_to_take (took k caller) t ≡ None
        go t true same alone' = ap (outcome_to_take (took k caller)) (sym (eqb-true caller t same))
            ∙ nothing_left (took k caller) caller entries_limit calls_limit
            (took_stage k caller left.stage.sound entries_limit calls_limit left.stage)
            (took_has_none k caller left.stage.sound told.0 told.1)
        go t false other alone' = took_others_take k caller left.stage.sound t other ∙ left.none t (rw (other, alone') refl)

    -- and whose is not
    kept : is_left H n caller call rest ≡ false → Leads k [] (Left rest)
    kept stays = leads_none k (Left rest) (skip front rest entry k whole left (λ t acts alone.
        subst (λ t. list_any (is_act t) rest ≡ false → outcome_to_take k t ≡ None) (eqb-true caller t acts)
        (λ alone. not_over k caller n (is_last alone)
        (is_over_by alone ∙ undone (list_any (is_act caller) rest) (is_done H n call) alone stays)) alone))
      where
        undone : (a b : Bool) → a ≡ false → (not a && b) ≡ false → b ≡ false
        undone a b h g = grind arith

    pub at_call : Leads k (take_if (is_left H n caller call rest) caller) (Left rest)
    at_call = go (list_any (is_act caller) rest) (is_done H n call) refl refl
      where
        go : (a b : Bool) → list_any (is_act caller) rest ≡ a → is_done H n call ≡ b
            → Leads k (take_if (is_left H n caller call rest) caller) (Left rest)
        go true b acts done = let no : is_left H n caller call rest ≡ false =
            rw acts refl in subst (λ c. Leads k (take_if c caller) (Left rest)) (sym no) (kept no)
        go false false alone done = let no : is_left H n caller call rest ≡ false =
            rw (alone, done) refl in subst (λ c. Leads k (take_if c caller) (Left rest)) (sym no) (kept no)
        go false true alone done = let yes : is_left H n caller call rest ≡ true =
            rw (alone, done) refl in subst (λ c. Leads k (take_if c caller) (Left rest)) (sym yes) (taken alone done)

  one : (front rest : List Entry) (e : Entry) (k : KernelParts) → H ≡ front ++ e ∷ rest → Left (e ∷ rest) k
      → Leads k (last_take H e rest) (Left rest)
  one front rest (Given (input.Called n caller call)) k whole left = at_call front rest n caller call k whole left
  one front rest (Given (input.At moment)) k whole left =
      leads_none k (Left rest) (skip_act front rest (Given (input.At moment)) k whole left refl)
  one front rest (Given (input.Opened thread space)) k whole left =
      leads_none k (Left rest) (skip_act front rest (Given (input.Opened thread space)) k whole left refl)
  one front rest (Given (input.Exreg thread target control)) k whole left =
      leads_none k (Left rest) (skip_act front rest (Given (input.Exreg thread target control)) k whole left refl)
  one front rest (Given (input.Broke thread)) k whole left =
      leads_none k (Left rest) (skip_act front rest (Given (input.Broke thread)) k whole left refl)
  one front rest (Given (input.Moved n count)) k whole left =
      leads_none k (Left rest) (skip_act front rest (Given (input.Moved n count)) k whole left refl)
  one front rest (Written output) k whole left = leads_none k (Left rest) (skip_act front rest (Written output) k whole left refl)

  pub lasts : (rest front : List Entry) (k : KernelParts) → H ≡ front ++ rest → Left rest k → Leads k (last_takes H rest) (Left [])
  unfolding last_takes
  lasts [] front k whole left = leads_none k (Left []) left
  lasts (e ∷ rest) front k whole left =
      leads_append k (last_take H e rest) (last_takes H rest) (Left rest) (Left []) (one front rest e k whole left)
      (λ between left. lasts rest (front ++ e ∷ []) between (whole ∙ sym (append_assoc front (e ∷ []) rest)) left)

  -- it begins where all outcomes that the script has not taken are to be taken
  pub begins : (k : KernelParts) → Stage entries_limit calls_limit k → k.history ≡ H → ((t : ℕ) → is_untaken H t ≡ has_untaken k t)
      → Left H k
  begins k stage history untaken = record {
    stage = stage;
    history = history;
    mine = λ t acts. sym (untaken t);
    none = λ t alone. nothing_left k t entries_limit calls_limit stage (sym (untaken t) ∙ (untaken_more [] H t alone ∙ untaken_none t));
  }
