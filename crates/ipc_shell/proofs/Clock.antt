-- A clock reading: its At is written where a phase is due then, and else with the next input.
use Rattle.std.proofs.Common.{◌≡◌, refl, sym, ap, subst, ◌∙◌, ℕ, ◌+◌, ◌≤◌, ◌<◌, Bool, true, false, List, [], ◌∷◌, ◌++◌}
use Rattle.std.proofs.Common.{append-nil, length, map, inl, arith}
use Rattle.std.specs.Prelude.{MatchBool, nat_lt, max, min}
use Rattle.std.specs.List.{list_any}
use Rattle.std.proofs.lemmas.Option.{none-some}
use Rattle.std.proofs.lemmas.Bool.{ltb-true, lt-ltb}
use Rattle.ipc_words.specs.Limits.{last_moment}
use Rattle.ipc_history.specs.Calls.{numbers}
use Rattle.ipc_history.specs.Legal.{Legal, Quiet, is_admissible}
use Rattle.ipc_history.specs.NextOutput.{next_output}
use Rattle.ipc_history.specs.Settled.{Settled}
use Rattle.ipc_history.specs.Threads.{now}
use Rattle.ipc_history.specs.Timing.{is_due_at}
use Rattle.ipc_history.specs.declared.entry.Entry.{Entry}
use Rattle.ipc_history.specs.declared.entry.Entry.TheVariants.{Given, Written}
use Rattle.ipc_history.specs.declared.entry.Input.TheVariants as input
use Rattle.ipc_history.specs.declared.entry.Output.{Output}
use Rattle.ipc_laws.proofs.Changing.{changes}
use Rattle.ipc_laws.proofs.Clock.{at_stays_quiet}
use Rattle.ipc_laws.proofs.Tests.{left, right}
use Rattle.ipc_core.specs.Effects.{Ticks}
use Rattle.ipc_core.specs.KernelParts.{KernelParts}
use Rattle.ipc_core.specs.Obeying.{Does, Obeys, cause_of}
use Rattle.ipc_core.specs.Outcomes.{has_untaken}
use Rattle.ipc_core.specs.Steps.{at_moment}
use Rattle.ipc_core.specs.declared.command.Answer.TheVariants.{Done}
use Rattle.ipc_core.specs.declared.command.Command.TheVariants.{At}
use Rattle.ipc_core.proofs.BusyLaws.{no_call, outputs_break, outputs_call}
use Rattle.ipc_core.proofs.Commands.{clock_brings, none_due, now_settled}
use Rattle.ipc_core.proofs.SoundLaws.{stays_sound}
use Rattle.ipc_exchange.proofs.LiveLemmas.{live_more}
use Rattle.ipc_shell.specs.Replays.{ends_at}
use Rattle.ipc_shell.specs.Script.{is_untaken}
use Rattle.ipc_shell.proofs.Untaken.{untaken_other, untaken_written}
use Rattle.ipc_shell.proofs.AtEnds.{ends_outputs}
use Rattle.ipc_shell.proofs.Busy.{untaken_same}
use Rattle.ipc_shell.proofs.Fronts.{lead, legal_lead, no_lead, quiet_lead}
use Rattle.ipc_shell.proofs.Runs.{Leads, leads_one}
use Rattle.ipc_shell.proofs.Stages.{Stage, Stands, ahead, ahead_same}
use Rattle.ipc_shell.proofs.Steps.{obeys_by}

later_parts : (H : List Entry) (moment : ℕ) → is_admissible H (input.At moment) ≡ true → (now H < moment) × (moment < last_moment + 1)
unfolding is_admissible
later_parts H moment h = (ltb-true (now H) moment (left _ _ h), ltb-true moment (last_moment + 1) (right (nat_lt (now H) moment) _ h))

reading_is : (a m last : ℕ) → a < m → m < last + 1 → max a (min m last) ≡ m
reading_is a m last lt most = omega arith

module _ (entries_limit calls_limit : ℕ) (k : KernelParts) (stage : Stage entries_limit calls_limit k) (m : ℕ) (rest : List Entry) where
  -- the history with the At, and all that comes of it
  abbrev Q : List Entry
  Q = k.history ++ Given (input.At m) ∷ []

  abbrev K : List Entry
  K = Q ++ map Written (lead rest)

  module _ (legal : Legal (Q ++ rest)) (quiet : Quiet (Q ++ rest)) (now_is : now k.history ≡ k.moment)
      (may : is_admissible k.history (input.At m) ≡ true) (ready : (t : ℕ) → is_untaken k.history t ≡ has_untaken k t) where
    moments : (now k.history < m) × (m < last_moment + 1)
    moments = later_parts k.history m may

    reading : at_moment k m ≡ m
    reading = reading_is k.moment m last_moment (let a = moments.0 in omega (arith, now_is, a)) moments.1

    settled : Settled Q K
    settled =
        record { outputs = lead rest; appended = refl; legal = λ before. legal_lead Q rest legal; quiet = quiet_lead Q rest legal quiet }

    now_at : now Q ≡ m
    now_at = (changes k.history (Given (input.At m))).moment

    seen : (t : ℕ) → is_untaken K t ≡ has_untaken k t
    seen t = untaken_written Q (lead rest) t ∙ (untaken_other k.history (Given (input.At m)) t refl ∙ ready t)

    abbrev Comes : List Entry → KernelParts
    Comes L = record k { history = L; moment = m; since = length k.history }

    ticks : (L : List Entry) → Legal L → MatchBool (list_any (is_due_at k.history m) (numbers k.history)) (Settled Q L) (L ≡ k.history)
        → Ticks k (Comes L) m
    ticks L after history = record {
      moment = sym reading;
      history =
          subst (λ r. MatchBool (list_any (is_due_at k.history r) (numbers k.history)) (Settled (k.history ++ Given (input.At r) ∷ []) L)
          (L ≡ k.history)) (sym reading) history;
      legal = λ before. after;
      since = refl;
      taken = refl;
      entries_limit = refl;
      calls_limit = refl;
      held = refl;
      room = refl;
    }

    obeys : (L : List Entry) → Ticks k (Comes L) m → Obeys k (At m) Done (Comes L)
    unfolding cause_of Does
    obeys L ticks = obeys_by k (Comes L) (At m) Done refl ticks

    stage_at : (L : List Entry) → Ticks k (Comes L) m → now L ≤ m → ends_at L ≡ false → Stage entries_limit calls_limit (Comes L)
    stage_at L ticks past closed = record {
      sound = stays_sound k (At m) Done (Comes L) stage.sound (inl (obeys L ticks));
      entries_limit_is = stage.entries_limit_is;
      calls_limit_is = stage.calls_limit_is;
      past = past;
      closed = closed;
    }

    -- where a phase is due
    due : list_any (is_due_at k.history m) (numbers k.history) ≡ true → Leads k (At m ∷ []) (Stands entries_limit calls_limit K)
    due is = leads_one k (Comes K) (At m) Done _ (obeys K ticks_due) tt (record {
      stage = at_end;
      ahead_is = ahead_same K m now_end;
      untaken = λ t. seen t ∙ sym (kept t);
    })
      where
        ticks_due : Ticks k (Comes K) m
        ticks_due = ticks K (legal_lead Q rest legal) (subst (λ b. MatchBool b (Settled Q K) (K ≡ k.history)) (sym is) settled)

        -- an output comes of it
        closed_end : (outputs : List Output) → lead rest ≡ outputs → ends_at (Q ++ map Written outputs) ≡ false
        closed_end (output ∷ outputs) e = ends_outputs Q output outputs
        closed_end [] e =
            let brings = clock_brings k.history m stage.sound.legal stage.sound.quiet is in
            let quiet_there : Quiet (Q ++ []) = subst (λ outputs. Quiet (Q ++ map Written outputs)) e (quiet_lead Q rest legal quiet) in
            absurd (none-some brings.0 (sym (ap next_output (sym (append-nil Q)) ∙ quiet_there) ∙ brings.1))

        now_end : now K ≡ m
        now_end = now_settled Q K settled ∙ now_at

        at_end : Stage entries_limit calls_limit (Comes K)
        at_end = stage_at K ticks_due (omega (arith, now_end)) (closed_end (lead rest) refl)

        kept : (t : ℕ) → has_untaken (Comes K) t ≡ has_untaken k t
        kept t = untaken_same k (Comes K) (At m) Done t stage.sound at_end.sound (inl (obeys K ticks_due)) refl refl
            (no_call Q (map Written (lead rest)) t (outputs_call (lead rest) t) ∙ no_call k.history (Given (input.At m) ∷ []) t refl)
            (λ live. live_more Q (map Written (lead rest)) t (outputs_break (lead rest) t)
            (live_more k.history (Given (input.At m) ∷ []) t refl live))

    -- and where none is: nothing comes of the At
    undue : list_any (is_due_at k.history m) (numbers k.history) ≡ false → Leads k (At m ∷ []) (Stands entries_limit calls_limit K)
    unfolding has_untaken
    undue is = leads_one k (Comes k.history) (At m) Done _ (obeys k.history ticks_undue) tt (record {
      stage = stage_at k.history ticks_undue (omega (arith, moments.0)) stage.closed;
      ahead_is = stands_at;
      untaken = seen;
    })
      where
        ticks_undue : Ticks k (Comes k.history) m
        ticks_undue =
            ticks k.history stage.sound.legal (subst (λ b. MatchBool b (Settled Q k.history) (k.history ≡ k.history)) (sym is) refl)

        none : lead rest ≡ []
        none = no_lead Q rest (at_stays_quiet k.history m stage.sound.quiet (none_due k.history m is)) legal

        stands_at : ahead (Comes k.history) ≡ K
        stands_at = rw (lt-ltb (now k.history) m moments.0, none) (sym (append-nil Q))

    pub at_leads : Leads k (At m ∷ []) (Stands entries_limit calls_limit K)
    at_leads = go (list_any (is_due_at k.history m) (numbers k.history)) refl
      where
        go : (b : Bool) → list_any (is_due_at k.history m) (numbers k.history) ≡ b
            → Leads k (At m ∷ []) (Stands entries_limit calls_limit K)
        go true is = due is
        go false is = undue is
