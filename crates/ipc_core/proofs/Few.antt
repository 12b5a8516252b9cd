-- One command writes at most 1,022 entries.
use Rattle.std.proofs.Common.{◌≡◌, ap, subst, ◌∙◌, ℕ, ◌+◌, ◌≤◌, Bool, true, false, if◌then◌else◌, List, [], ◌∷◌, ◌++◌, append_assoc, length, map, Option, Some, None, inl, inr, arith}
use Rattle.std.proofs.lemmas.List.{length-append, length-map}
use Rattle.std.specs.Prelude.{nat_lt, MatchBool}
use Rattle.ipc_words.specs.Limits.{max_command_entries, max_outputs}
use Rattle.ipc_history.specs.Legal.{Legal}
use Rattle.ipc_history.specs.Settled.{Settled}
use Rattle.ipc_history.specs.Threads.{now}
use Rattle.ipc_history.specs.declared.entry.Entry.{Entry}
use Rattle.ipc_history.specs.declared.entry.Entry.TheVariants.{Given, Written}
use Rattle.ipc_history.specs.declared.entry.Input.{Input}
use Rattle.ipc_history.specs.declared.entry.Input.TheVariants as input
use Rattle.ipc_laws.proofs.LiveThreads.{outputs_most}
use Rattle.ipc_core.specs.KernelParts.{KernelParts}
use Rattle.ipc_core.specs.Obeying.{Does, MayObey, Obeys, ObeysOr, cause_of}
use Rattle.ipc_core.specs.Steps.{at_if_later, at_moment, with_input}
use Rattle.ipc_core.specs.declared.answers.Advance.TheVariants.{Moved, Idle}
use Rattle.ipc_core.specs.declared.command.Answer.{Answer}
use Rattle.ipc_core.specs.declared.command.Answer.TheVariants.{Opened, Entered, Exchanged, Done, Advanced, Taken}
use Rattle.ipc_core.specs.declared.command.Command.{Command}
use Rattle.ipc_core.specs.declared.command.Command.TheVariants.{Open, Enter, Exreg, Broke, At, Advance, Take}
use Rattle.ipc_core.specs.declared.refusal.Refusal.{Refusal}

-- an input and what it brings about
settled_few : (P new : List Entry) (input : Input) → Settled (P ++ Given input ∷ []) new → Legal new → length new ≤ length P + (max_outputs + 1)
settled_few P new input settled legal =
    let whole = settled.appended ∙ append_assoc P (Given input ∷ []) (map Written settled.outputs) in
    omega (arith, ap length whole, length-append P (Given input ∷ map Written settled.outputs), length-map settled.outputs Written, outputs_most P input settled.outputs (subst Legal whole legal))

at_most_one : (H : List Entry) (moment : ℕ) → length (H ++ at_if_later H moment) ≤ length H + 1
at_most_one H moment = go (nat_lt (now H) moment)
  where
    go : (b : Bool) → length (H ++ (if b then Given (input.At moment) ∷ [] else [])) ≤ length H + 1
    go true = omega (arith, length-append H (Given (input.At moment) ∷ []))
    go false = omega (arith, length-append H [])

-- with the At before it
takes_few : (H new : List Entry) (moment : ℕ) (input : Input) → Settled (with_input H moment input) new → Legal new → length new ≤ length H + max_command_entries
takes_few H new moment input settled legal =
    let few = settled_few (H ++ at_if_later H moment) new input settled legal in
    omega (arith, few, at_most_one H moment)

same_few : (old new : KernelParts) → new ≡ old → length new.history ≤ length old.history + max_command_entries
same_few old new same = rw same (omega arith)

ticks_few : (H new : List Entry) (moment : ℕ) (b : Bool) → MatchBool b (Settled (H ++ Given (input.At moment) ∷ []) new) (new ≡ H) → Legal new → length new ≤ length H + max_command_entries
ticks_few H new moment true settled legal = omega (arith, settled_few H new (input.At moment) settled legal)
ticks_few H new moment false same legal = rw same (omega arith)

does_few : (old : KernelParts) (command : Command) (answer : Answer) (new : KernelParts) → Does old command answer new → Legal new.history → length new.history ≤ length old.history + max_command_entries
unfolding Does
does_few old (Open number space) (Opened thread) new does legal = takes_few old.history new.history old.moment (input.Opened thread space) does.takes.history legal
does_few old (Enter thread call) (Entered number) new does legal = takes_few old.history new.history old.moment (input.Called number thread call) does.takes.history legal
does_few old (Exreg thread target control) (Exchanged answer) new does legal = takes_few old.history new.history old.moment _ does.takes.history legal
does_few old (Broke thread) Done new does legal = takes_few old.history new.history old.moment (input.Broke thread) does.takes.history legal
does_few old (At reading) Done new does legal = ticks_few old.history new.history (at_moment old reading) _ does.history legal
does_few old Advance (Advanced Moved) new does legal = takes_few old.history new.history old.moment _ does.takes.history legal
does_few old Advance (Advanced Idle) new does legal = rw does.1 (omega arith)
does_few old (Take thread) (Taken outcome) new does legal = rw does.taken (omega arith)
does_few old _ _ new does legal = absurd does

pub obeys_few : (old : KernelParts) (command : Command) (answer : Answer) (new : KernelParts) → MayObey old command answer new → Legal new.history → length new.history ≤ length old.history + max_command_entries
unfolding Obeys
obeys_few old command answer new may legal = elim may [
  | inl obeys ↦ go (cause_of old command) obeys
  | inr lacks ↦ same_few old new lacks.stays
]
  where
    go : (cause : Option Refusal) → ObeysOr cause old command answer new → length new.history ≤ length old.history + max_command_entries
    go (Some refusal) refused = same_few old new refused.1
    go None does = does_few old command answer new does legal

-- no command lets go of an entry
does_held : (old : KernelParts) (command : Command) (answer : Answer) (new : KernelParts) → Does old command answer new → new.held ≡ old.held
unfolding Does
does_held old (Open number space) (Opened thread) new does = does.takes.held
does_held old (Enter thread call) (Entered number) new does = does.takes.held
does_held old (Exreg thread target control) (Exchanged answer) new does = does.takes.held
does_held old (Broke thread) Done new does = does.takes.held
does_held old (At reading) Done new does = does.held
does_held old Advance (Advanced Moved) new does = does.takes.held
does_held old Advance (Advanced Idle) new does = ap (λ (k : KernelParts). k.held) does.1
does_held old (Take thread) (Taken outcome) new does = ap (λ (k : KernelParts). k.held) does.taken
does_held old _ _ new does = absurd does

pub obeys_held : (old : KernelParts) (command : Command) (answer : Answer) (new : KernelParts) → MayObey old command answer new → new.held ≡ old.held
unfolding Obeys
obeys_held old command answer new may = elim may [
  | inl obeys ↦ go (cause_of old command) obeys
  | inr lacks ↦ ap (λ (k : KernelParts). k.held) lacks.stays
]
  where
    go : (cause : Option Refusal) → ObeysOr cause old command answer new → new.held ≡ old.held
    go (Some refusal) refused = ap (λ (k : KernelParts). k.held) refused.1
    go None does = does_held old command answer new does
