-- Commands that are obeyed one after the other.
use Rattle.std.proofs.Common.{◌≡◌, refl, subst, sym, ◌∙◌, List, [], ◌∷◌, ◌++◌, inl, inr, false, true}
use Rattle.std.proofs.lemmas.Bool.{false≢true}
use Rattle.ipc_core.specs.KernelParts.{KernelParts}
use Rattle.ipc_core.specs.Obeying.{MayObey, Obeys, Runs, is_no_memory}
use Rattle.ipc_core.specs.declared.command.Answer.{Answer}
use Rattle.ipc_core.specs.declared.command.Answer.TheVariants.{Refused}
use Rattle.ipc_core.specs.declared.refusal.Refusal.{Refusal}
use Rattle.ipc_core.specs.declared.refusal.Refusal.TheVariants.{NoMemory}
use Rattle.ipc_core.specs.declared.command.Command.{Command}

-- no command leaves the kernel as it is
pub runs_none : (first kernel : KernelParts) (answers : List Answer) → kernel ≡ first → answers ≡ [] → Runs first [] answers kernel
unfolding Runs
runs_none first kernel answers same none = rw none same

-- one more command
pub runs_push : (commands : List Command) (answers : List Answer) (first between last : KernelParts) (command : Command) (answer : Answer) → Runs first commands answers between → Obeys between command answer last → Runs first (commands ++ command ∷ []) (answers ++ answer ∷ []) last
unfolding Runs
runs_push [] [] first between last command answer runs obeys = (last, subst (λ k. Obeys k command answer last) runs obeys, refl)
runs_push (c ∷ commands) (a ∷ answers) first between last command answer runs obeys = (runs.0, runs.1, runs_push commands answers runs.0 between last command answer runs.2 obeys)
runs_push [] (a ∷ answers) first between last command answer runs obeys = absurd runs
runs_push (c ∷ commands) [] first between last command answer runs obeys = absurd runs

-- a refusal that has another cause
pub other_refusal : (refusal : Refusal) → (refusal ≡ NoMemory → ⊥) → is_no_memory (Refused refusal) ≡ false
other_refusal NoMemory other = absurd (other refl)
other_refusal _ other = refl

-- what was not refused for want of memory was obeyed
pub obeyed : (old : KernelParts) (command : Command) (answer : Answer) (new : KernelParts) → MayObey old command answer new → is_no_memory answer ≡ false → Obeys old command answer new
obeyed old command answer new may told = elim may [
  | inl obeys ↦ obeys
  | inr lacks ↦ absurd (false≢true (sym told ∙ subst (λ a. is_no_memory a ≡ true) (sym lacks.answer_is) refl))
]

-- so one more command goes on, where its answer stands at the end
pub runs_more : (commands : List Command) (answers more : List Answer) (first between last : KernelParts) (command : Command) (answer : Answer) → Runs first commands answers between → MayObey between command answer last → is_no_memory answer ≡ false → more ≡ answers ++ answer ∷ [] → Runs first (commands ++ command ∷ []) more last
runs_more commands answers more first between last command answer runs may told pushed =
    subst (λ answers. Runs first (commands ++ command ∷ []) answers last) (sym pushed) (runs_push commands answers first between last command answer runs (obeyed between command answer last may told))
