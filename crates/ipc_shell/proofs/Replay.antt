-- The commands of the entries of a history, one behind the other.
use Rattle.std.proofs.Common.{◌≡◌, refl, sym, ap, subst, ◌∙◌, ℕ, ◌+◌, ◌≤◌, Bool, true, false, eq-eqb, List, [], ◌∷◌, ◌++◌, append_assoc}
use Rattle.std.proofs.Common.{append-nil, map, Some, None, arith}
use Rattle.std.specs.Prelude.{nat_lt, if◌then◌else◌}
use Rattle.std.proofs.lemmas.Bool.{ltb-false}
use Rattle.ipc_words.specs.ThreadId.{number_of}
use Rattle.ipc_history.specs.CallParts.{CallParts}
use Rattle.ipc_history.specs.Calls.{caller_of, calls_made, is_called}
use Rattle.ipc_history.specs.Entries.{calls}
use Rattle.ipc_history.specs.Legal.{Legal, Quiet, is_admissible, is_free}
use Rattle.ipc_history.specs.Outcomes.{OutcomeParts}
use Rattle.ipc_history.specs.Phases.{is_over, open_call}
use Rattle.ipc_history.specs.Threads.{now}
use Rattle.ipc_history.specs.declared.entry.Entry.{Entry}
use Rattle.ipc_history.specs.declared.entry.Entry.TheVariants.{Given, Written}
use Rattle.ipc_history.specs.declared.entry.Input.{Input}
use Rattle.ipc_history.specs.declared.entry.Input.TheVariants as input
use Rattle.ipc_laws.proofs.Numbering.{called_below, calls_called}
use Rattle.ipc_laws.proofs.OneOpen.{free_parts, none_open}
use Rattle.ipc_laws.proofs.Places.{any_at}
use Rattle.ipc_core.specs.KernelParts.{KernelParts}
use Rattle.ipc_core.specs.Laws.{IsSound}
use Rattle.ipc_core.specs.Obeying.{Obeys}
use Rattle.ipc_core.specs.Outcomes.{has_untaken, outcome_to_take}
use Rattle.ipc_core.specs.Steps.{with_input}
use Rattle.ipc_core.specs.declared.command.Command.{Command}
use Rattle.ipc_core.specs.declared.command.Command.TheVariants.{Open, Enter, Exreg, Broke, At, Advance, Take}
use Rattle.ipc_desks.proofs.LastCalls.{last_is}
use Rattle.ipc_shell.specs.Replays.{FindsRoom, ends_at, IsBehindAt, MayBeKernels}
use Rattle.ipc_shell.specs.Script.{commands_at, commands_from, is_untaken, take_if}
use Rattle.ipc_shell.proofs.Clock.{at_leads}
use Rattle.ipc_shell.proofs.Fronts.{follows_next, given_parts, lead, legal_lead, quiet_lead}
use Rattle.ipc_shell.proofs.Runs.{Leads, leads_append, leads_before, leads_none}
use Rattle.ipc_shell.proofs.Stages.{ReadyBut, Stands, admitted, ahead}
use Rattle.ipc_shell.proofs.Steps.{broke_leads, call_leads, call_parts, exreg_leads, exreg_parts, move_leads, open_leads}
use Rattle.ipc_shell.proofs.Takes.{has_last, take_done, take_obeys, to_take, took, took_has_none, took_others, took_stage}

-- a free thread with something to take has an outcome to take
pub free_takes : (k : KernelParts) (thread : ℕ) → IsSound k → is_free k.history thread ≡ true → has_untaken k thread ≡ true
    → (o : OutcomeParts) × (outcome_to_take k thread ≡ Some o)
free_takes k thread sound free some =
    let own = has_last k thread some in
    let is = last_is k.history sound.legal thread own.number own.last in
    to_take k thread sound own
    (none_open k.history own.number is.1 (ap (open_call k.history) is.0 ∙ (free_parts k.history thread free).1))

module _ (entries_limit calls_limit : ℕ) (H : List Entry) (may_be : MayBeKernels entries_limit calls_limit H) where
  -- no At is to come with the next input where that is an At, or where there is none
  pub not_ahead : (k : KernelParts) (rest : List Entry) → H ≡ ahead k ++ rest → (IsBehindAt rest → ⊥)
      → nat_lt (now k.history) k.moment ≡ false
  not_ahead k rest whole behind = go (nat_lt (now k.history) k.moment) refl whole
    where
      go : (b : Bool) → nat_lt (now k.history) k.moment ≡ b
          → H ≡ (k.history ++ (if b then Given (input.At k.moment) ∷ [] else [])) ++ rest → nat_lt (now k.history) k.moment ≡ false
      go true e w =
          absurd (behind (may_be.moments k.history rest k.moment (w ∙ append_assoc k.history (Given (input.At k.moment) ∷ []) rest)))
      go false e w = e

  module _ (k : KernelParts) (rest : List Entry) where
    abbrev After : Input → List Entry
    After given = (ahead k ++ Given given ∷ []) ++ map Written (lead rest)

    module _ (given : Input) (whole : H ≡ ahead k ++ Given given ∷ rest) where
      split : H ≡ (ahead k ++ Given given ∷ []) ++ rest
      split = whole ∙ sym (append_assoc (ahead k) (Given given ∷ []) rest)

      legal : Legal (After given)
      legal = legal_lead (ahead k ++ Given given ∷ []) rest (subst Legal split may_be.legal)

      quiet : Quiet (After given)
      quiet = quiet_lead (ahead k ++ Given given ∷ []) rest (subst Legal split may_be.legal) (subst Quiet split may_be.quiet)

      admissible : is_admissible (ahead k) given ≡ true
      admissible = (given_parts (ahead k) given (follows_next (ahead k) (Given given) rest (subst Legal whole may_be.legal))).1

      room : ends_at k.history ≡ false → FindsRoom entries_limit k.history given
      room closed = may_be.room k.history rest k.moment given closed split

    -- the number of a call is within the limit
    few : (n thread : ℕ) (call : CallParts) → H ≡ ahead k ++ Given (input.Called n thread call) ∷ rest
        → calls_made k.history + 1 ≤ calls_limit
    few n thread call whole =
        let parts =
        call_parts k.history n thread call
        (admitted k (input.Called n thread call) refl (admissible (input.Called n thread call) whole)) in
        let called =
        calls_called H n
        (any_at (calls n) H (Given (input.Called n thread call)) (record { front = ahead k; rest = rest; whole = whole })
        (eq-eqb n n refl)) in
        let below = called_below H may_be.legal n called in
        omega (arith, below, parts.1, may_be.calls)

    module _ (stands : Stands entries_limit calls_limit (ahead k) k) where
      abbrev Then : Input → Type 0
      Then given = Leads k (commands_at (ahead k) (Given given)) (Stands entries_limit calls_limit (After given))

      -- behind the take of a thread's outcome, where it has one to take
      but_none : (thread : ℕ) → is_untaken (ahead k) thread ≡ false → ReadyBut k thread
      but_none thread none = record { others = λ t other. stands.untaken t; idle = sym (stands.untaken thread) ∙ none }

      but_took : (thread : ℕ) (o : OutcomeParts) → outcome_to_take k thread ≡ Some o → ReadyBut (took k thread) thread
      but_took thread o told = record {
        others = λ t other. stands.untaken t ∙ sym (took_others k thread stands.stage.sound t other);
        idle = took_has_none k thread stands.stage.sound o told;
      }

      then_call : (n thread : ℕ) (call : CallParts) → H ≡ ahead k ++ Given (input.Called n thread call) ∷ rest
          → Then (input.Called n thread call)
      then_call n thread call whole = go (is_untaken (ahead k) thread) refl
        where
          go : (b : Bool) → is_untaken (ahead k) thread ≡ b
              → Leads k (take_if b thread ++ Enter thread call ∷ [])
              (Stands entries_limit calls_limit (After (input.Called n thread call)))
          go false e =
              call_leads entries_limit calls_limit k stands.stage (lead rest) (After (input.Called n thread call))
              (legal (input.Called n thread call) whole) (quiet (input.Called n thread call) whole)
              n thread call refl (admissible (input.Called n thread call) whole) (but_none thread e)
              (room (input.Called n thread call) whole stands.stage.closed) (few n thread call whole)
          go true e =
              let may = admitted k (input.Called n thread call) refl (admissible (input.Called n thread call) whole) in
              let told =
              free_takes k thread stands.stage.sound (call_parts k.history n thread call may).0 (sym (stands.untaken thread) ∙ e) in
              leads_before k (took k thread) (Take thread) _ (Enter thread call ∷ []) _ (take_obeys k thread)
              (take_done k thread told.0 told.1)
              (call_leads entries_limit calls_limit (took k thread)
              (took_stage k thread stands.stage.sound entries_limit calls_limit stands.stage) (lead rest)
              (After (input.Called n thread call)) (legal (input.Called n thread call) whole)
              (quiet (input.Called n thread call) whole)
              n thread call refl (admissible (input.Called n thread call) whole) (but_took thread told.0 told.1)
              (room (input.Called n thread call) whole stands.stage.closed) (few n thread call whole))

      then_exreg : (thread target control : ℕ) → H ≡ ahead k ++ Given (input.Exreg thread target control) ∷ rest
          → Then (input.Exreg thread target control)
      then_exreg thread target control whole = go (is_untaken (ahead k) thread) refl
        where
          go : (b : Bool) → is_untaken (ahead k) thread ≡ b
              → Leads k (take_if b thread ++ Exreg thread target control ∷ [])
              (Stands entries_limit calls_limit (After (input.Exreg thread target control)))
          go false e =
              exreg_leads entries_limit calls_limit k stands.stage (lead rest) (After (input.Exreg thread target control))
              (legal (input.Exreg thread target control) whole) (quiet (input.Exreg thread target control) whole)
              thread target control refl (admissible (input.Exreg thread target control) whole) (but_none thread e)
              (room (input.Exreg thread target control) whole stands.stage.closed)
          go true e =
              let may = admitted k (input.Exreg thread target control) refl (admissible (input.Exreg thread target control) whole) in
              let told =
              free_takes k thread stands.stage.sound (exreg_parts k.history thread target control may).0
              (sym (stands.untaken thread) ∙ e) in
              leads_before k (took k thread) (Take thread) _ (Exreg thread target control ∷ []) _ (take_obeys k thread)
              (take_done k thread told.0 told.1)
              (exreg_leads entries_limit calls_limit (took k thread)
              (took_stage k thread stands.stage.sound entries_limit calls_limit stands.stage) (lead rest)
              (After (input.Exreg thread target control)) (legal (input.Exreg thread target control) whole)
              (quiet (input.Exreg thread target control) whole)
              thread target control refl (admissible (input.Exreg thread target control) whole) (but_took thread told.0 told.1)
              (room (input.Exreg thread target control) whole stands.stage.closed))

      then_at : (moment : ℕ) → H ≡ ahead k ++ Given (input.At moment) ∷ rest → Then (input.At moment)
      then_at moment whole =
          subst (λ A. Leads k (At moment ∷ [])
          (Stands entries_limit calls_limit ((A ++ Given (input.At moment) ∷ []) ++ map Written (lead rest)))) (sym same)
          (at_leads entries_limit calls_limit k stands.stage moment rest (subst Legal bare may_be.legal) (subst Quiet bare may_be.quiet)
          now_is (subst (λ A. is_admissible A (input.At moment) ≡ true) same (admissible (input.At moment) whole))
          (λ t. ap (λ A. is_untaken A t) (sym same) ∙ stands.untaken t))
        where
          none : nat_lt (now k.history) k.moment ≡ false
          none = not_ahead k (Given (input.At moment) ∷ rest) whole (λ behind. behind)

          same : ahead k ≡ k.history
          same = rw none (append-nil k.history)

          now_is : now k.history ≡ k.moment
          now_is = let below = ltb-false (now k.history) k.moment none in omega (arith, below, stands.stage.past)

          bare : H ≡ (k.history ++ Given (input.At moment) ∷ []) ++ rest
          bare = split (input.At moment) whole ∙ ap (λ A. (A ++ Given (input.At moment) ∷ []) ++ rest) same

      step : (given : Input) → H ≡ ahead k ++ Given given ∷ rest → Then given
      step (input.At moment) whole = then_at moment whole
      step (input.Opened thread space) whole =
          open_leads entries_limit calls_limit k stands.stage (lead rest) (After (input.Opened thread space))
          (legal (input.Opened thread space) whole) (quiet (input.Opened thread space) whole)
          thread space refl (admissible (input.Opened thread space) whole) stands.untaken
          (room (input.Opened thread space) whole stands.stage.closed)
      step (input.Called n thread call) whole = then_call n thread call whole
      step (input.Exreg thread target control) whole = then_exreg thread target control whole
      step (input.Broke thread) whole =
          broke_leads entries_limit calls_limit k stands.stage (lead rest) (After (input.Broke thread))
          (legal (input.Broke thread) whole) (quiet (input.Broke thread) whole)
          thread refl (admissible (input.Broke thread) whole) stands.untaken
      step (input.Moved n count) whole =
          move_leads entries_limit calls_limit k stands.stage (lead rest) (After (input.Moved n count))
          (legal (input.Moved n count) whole) (quiet (input.Moved n count) whole)
          n count refl (admissible (input.Moved n count) whole) stands.untaken

  -- the same where the kernel has come so far under another name of its history
  step_at : (k : KernelParts) (P rest : List Entry) (given : Input) → ahead k ≡ P → H ≡ P ++ Given given ∷ rest
      → Stands entries_limit calls_limit P k
      → Leads k (commands_at P (Given given)) (Stands entries_limit calls_limit ((P ++ Given given ∷ []) ++ map Written (lead rest)))
  step_at k P rest given same =
      subst (λ P. H ≡ P ++ Given given ∷ rest → Stands entries_limit calls_limit P k → Leads k (commands_at P (Given given))
      (Stands entries_limit calls_limit ((P ++ Given given ∷ []) ++ map Written (lead rest)))) same
      (λ whole stands. step k rest stands given whole)

  pub replay : (rest P : List Entry) (k : KernelParts) → H ≡ P ++ rest
      → Stands entries_limit calls_limit (P ++ map Written (lead rest)) k
      → Leads k (commands_from P rest) (Stands entries_limit calls_limit H)
  unfolding commands_from
  replay [] P k whole stands =
      leads_none k (Stands entries_limit calls_limit H) (subst (λ K. Stands entries_limit calls_limit K k) (sym whole) stands)
  replay (Written output ∷ rest) P k whole stands =
      replay rest (P ++ Written output ∷ []) k (whole ∙ sym (append_assoc P (Written output ∷ []) rest))
      (subst (λ K. Stands entries_limit calls_limit K k) (sym (append_assoc P (Written output ∷ []) (map Written (lead rest)))) stands)
  replay (Given given ∷ rest) P k whole stands =
      let bare = subst (λ K. Stands entries_limit calls_limit K k) (append-nil P) stands in
      leads_append k (commands_at P (Given given)) (commands_from (P ++ Given given ∷ []) rest)
      (Stands entries_limit calls_limit ((P ++ Given given ∷ []) ++ map Written (lead rest))) (Stands entries_limit calls_limit H)
      (step_at k P rest given bare.ahead_is whole bare)
      (λ between stands. replay rest (P ++ Given given ∷ []) between (whole ∙ sym (append_assoc P (Given given ∷ []) rest)) stands)
