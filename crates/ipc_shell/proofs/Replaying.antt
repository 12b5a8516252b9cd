-- The script of a history, run, gives that history.
use Rattle.std.proofs.Common.{◌≡◌, refl, sym, ap, subst, ◌∙◌, ℕ, ◌≤◌, Bool, true, false, List, [], ◌∷◌, ◌++◌, append-nil, map, None}
use Rattle.std.proofs.Common.{arith}
use Rattle.std.specs.Prelude.{nat_lt}
use Rattle.std.specs.List.{All, IsDistinct}
use Rattle.std.proofs.lemmas.List.Elements.{All-nil}
use Rattle.ipc_history.specs.Threads.{is_live, now, was_opened}
use Rattle.ipc_history.specs.declared.entry.Entry.{Entry}
use Rattle.ipc_history.specs.declared.entry.Entry.TheVariants.{Written}
use Rattle.ipc_core.specs.KernelParts.{KernelParts}
use Rattle.ipc_core.specs.Laws.{IsSound}
use Rattle.ipc_core.specs.Obeying.{empty_kernel}
use Rattle.ipc_core.specs.Outcomes.{IsTaken, has_untaken, outcome_to_take}
use Rattle.ipc_core.proofs.Commands.{nothing_legal, nothing_quiet}
use Rattle.ipc_core.proofs.RunLaws.{runs_once}
use Rattle.ipc_core.proofs.OtherCalls.{others_none}
use Rattle.ipc_shell.specs.Replays.{IsDone, MayBeKernels, Replays, ScriptReplays, ScriptRuns}
use Rattle.ipc_shell.specs.Script.{commands_from, commands_of, last_takes}
use Rattle.ipc_shell.proofs.Untaken.{untaken_none}
use Rattle.ipc_shell.proofs.Ends.{Left, begins, lasts}
use Rattle.ipc_shell.proofs.Fronts.{lead, no_lead}
use Rattle.ipc_shell.proofs.Replay.{not_ahead, replay}
use Rattle.ipc_shell.proofs.Runs.{Leads, leads_append}
use Rattle.ipc_shell.proofs.Stages.{Stage, Stands, ahead, ahead_same}

now_nothing : now [] ≡ 0
unfolding now
now_nothing = refl

module _ (entries_limit calls_limit : ℕ) where
  abbrev first : KernelParts
  first = empty_kernel entries_limit calls_limit

  empty_sound : IsSound first
  unfolding IsDistinct
  empty_sound = record {
    legal = nothing_legal;
    quiet = nothing_quiet;
    taken = All-nil (IsTaken []);
    once = tt;
    others = others_none;
    since = omega arith;
  }

  pub empty_stage : Stage entries_limit calls_limit first
  empty_stage =
      record { sound = empty_sound; entries_limit_is = refl; calls_limit_is = refl; past = omega (arith, now_nothing); closed = refl }

  empty_untaken : (t : ℕ) → has_untaken first t ≡ false
  unfolding has_untaken is_live was_opened
  empty_untaken t = refl

  empty_stands : Stands entries_limit calls_limit [] first
  empty_stands =
      record { stage = empty_stage; ahead_is = ahead_same [] 0 now_nothing; untaken = λ t. untaken_none t ∙ sym (empty_untaken t) }

  module _ (H : List Entry) (may_be : MayBeKernels entries_limit calls_limit H) where
    abbrev Ends : KernelParts → Type 0
    Ends k = Left entries_limit calls_limit H may_be.legal [] k

    all_done : Leads first (commands_of H) Ends
    unfolding commands_of
    all_done = leads_append first (commands_from [] H) (last_takes H H) (Stands entries_limit calls_limit H) Ends
        (replay entries_limit calls_limit H may_be H [] first refl
        (subst (λ outputs. Stands entries_limit calls_limit ([] ++ map Written outputs) first)
        (sym (no_lead [] H nothing_quiet may_be.legal)) empty_stands))
        (λ k stands. lasts entries_limit calls_limit H may_be.legal H [] k refl
        (begins entries_limit calls_limit H may_be.legal k stands.stage (settled k stands) stands.untaken))
      where
        settled : (k : KernelParts) → Stands entries_limit calls_limit H k → k.history ≡ H
        settled k stands =
            let none =
            not_ahead entries_limit calls_limit H may_be k [] (sym stands.ahead_is ∙ sym (append-nil (ahead k))) (λ behind. behind) in
            let same : ahead k ≡ k.history = rw none (append-nil k.history) in
            sym same ∙ stands.ahead_is

    replays : Replays H all_done.answers all_done.last
    replays = record { history = all_done.holds.history; done = all_done.done; taken = λ t. all_done.holds.none t refl }

pub script_runs : ScriptRuns
script_runs entries_limit calls_limit H may_be =
    let all = all_done entries_limit calls_limit H may_be in
    (all.answers, all.last, all.runs, replays entries_limit calls_limit H may_be)

-- what there is to take is by the history and what was taken
same_take : (a b : KernelParts) (t : ℕ) → a.history ≡ b.history → a.taken ≡ b.taken → outcome_to_take a t ≡ outcome_to_take b t
unfolding outcome_to_take
same_take a b t history taken = rw (history, taken) refl

pub script_replays : ScriptReplays
script_replays entries_limit calls_limit H may_be answers kernel runs =
    let all = all_done entries_limit calls_limit H may_be in
    let given = replays entries_limit calls_limit H may_be in
    let once = runs_once (first entries_limit calls_limit) all.last kernel _ all.answers answers nothing_legal all.runs runs in
    let history : all.last.history ≡ kernel.history = ap (λ k. k.history) once.1 in
    let taken : all.last.taken ≡ kernel.taken = ap (λ k. k.taken) once.1 in
    record {
      history = sym history ∙ given.history;
      done = subst (λ a. All IsDone a) once.0 given.done;
      taken = λ t. sym (same_take all.last kernel t history taken) ∙ given.taken t;
    }
