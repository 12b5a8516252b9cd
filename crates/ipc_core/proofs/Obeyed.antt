-- How a command is obeyed, or refused.
use Rattle.std.proofs.Common.{◌≡◌, refl, sym, ap, subst, ℕ, Option, Some, None, inl, inr, false, IsTrue, Result, Ok, Err, IfOk, IfErr, OnOk, OnErr}
use Rattle.ipc_history.specs.CallParts.{CallParts}
use Rattle.ipc_history.specs.Legal.{next_moving}
use Rattle.ipc_history.specs.Outcomes.{OutcomeParts}
use Rattle.ipc_history.specs.Threads.{is_live}
use Rattle.ipc_core.specs.Effects.{Breaks, Exchanges, Gives, Ticks}
use Rattle.ipc_core.specs.KernelParts.{KernelParts}
use Rattle.ipc_core.specs.Room.{LacksRoomFor, exreg_need, open_need}
use Rattle.ipc_core.specs.Obeying.{Does, LacksRoom, MayObey, Obeys, ObeysOr, cause_of, open_answer, enter_answer, exreg_result, broke_answer, rested, takes_memory}
use Rattle.ipc_core.specs.Refusals.{enter_refusal, exreg_refusal, open_refusal}
use Rattle.ipc_core.specs.Steps.{Advances, Enters, MayRefuse, Opens}
use Rattle.ipc_core.specs.declared.answers.Advance.TheVariants.{Moved, Idle}
use Rattle.ipc_core.specs.declared.answers.Advance.{Advance as Step}
use Rattle.ipc_core.specs.declared.answers.EnterRefused.{EnterRefused}
use Rattle.ipc_core.specs.declared.answers.ExregAnswer.{ExregAnswer}
use Rattle.ipc_core.specs.declared.command.Answer.{Answer}
use Rattle.ipc_core.specs.declared.command.Answer.TheVariants.{Opened, Entered, Exchanged, Done, Advanced, Taken, Refused}
use Rattle.ipc_core.specs.declared.command.Command.{Command}
use Rattle.ipc_core.specs.declared.command.Command.TheVariants.{Open, Enter, Exreg, Broke, At, Advance, Take}
use Rattle.ipc_core.specs.declared.refusal.Refusal.{Refusal}
use Rattle.ipc_core.specs.declared.refusal.Refusal.TheVariants.{NoMemory, NoThread}

-- without a cause it does what it says
obeys : (old new : KernelParts) (command : Command) (answer : Answer) → cause_of old command ≡ None → Does old command answer new → MayObey old command answer new
unfolding Obeys
obeys old new command answer none does = inl (subst (λ cause. ObeysOr cause old command answer new) (sym none) does)

-- with a cause it is refused
refused : (old new : KernelParts) (command : Command) (refusal : Refusal) → cause_of old command ≡ Some refusal → new ≡ old → MayObey old command (Refused refusal) new
unfolding Obeys
refused old new command refusal cause stays = inl (subst (λ cause. ObeysOr cause old command (Refused refusal) new) (sym cause) (refl, stays))

-- with a cause, or for want of memory
refused_or : (old new : KernelParts) (command : Command) (refusal : Refusal) → IsTrue (takes_memory command) → (refusal ≡ NoMemory → LacksRoom old command) → MayRefuse (cause_of old command) refusal → new ≡ old → MayObey old command (Refused refusal) new
refused_or old new command refusal memory lacks may stays = elim may [
  | inl cause ↦ refused old new command refusal cause stays
  | inr none ↦ inr (record { takes_memory = memory; no_other_cause = none.0; lacks_room = lacks none.1; answer_is = ap (λ r. Refused r) none.1; stays = stays })
]

module _ (old new : KernelParts) where
  pub open_obeys : (number space thread : ℕ) → open_refusal old number space ≡ None → Opens old new number space thread → MayObey old (Open number space) (Opened thread) new
  unfolding cause_of Does
  open_obeys number space thread none does = obeys old new (Open number space) (Opened thread) none does

  pub open_refused : (number space : ℕ) (refusal : Refusal) → (refusal ≡ NoMemory → LacksRoomFor old open_need) → MayRefuse (open_refusal old number space) refusal → new ≡ old → MayObey old (Open number space) (Refused refusal) new
  unfolding cause_of
  open_refused number space refusal lacks may stays = refused_or old new (Open number space) refusal refl lacks may stays

  pub enter_obeys : (thread number : ℕ) (call : CallParts) → enter_refusal old thread call ≡ None → Enters old new number thread call → MayObey old (Enter thread call) (Entered number) new
  unfolding cause_of Does
  enter_obeys thread number call none does = obeys old new (Enter thread call) (Entered number) none does

  pub enter_refused : (thread : ℕ) (call : CallParts) (refusal : Refusal) → MayRefuse (enter_refusal old thread call) refusal → new ≡ old → MayObey old (Enter thread call) (Refused refusal) new
  unfolding cause_of
  enter_refused thread call refusal may stays = refused_or old new (Enter thread call) refusal refl (λ is. tt) may stays

  pub exreg_obeys : (thread target control : ℕ) (answer : ExregAnswer) → exreg_refusal old thread ≡ None → Exchanges old new thread target control answer → MayObey old (Exreg thread target control) (Exchanged answer) new
  unfolding cause_of Does
  exreg_obeys thread target control answer none does = obeys old new (Exreg thread target control) (Exchanged answer) none does

  pub exreg_refused : (thread target control : ℕ) (refusal : Refusal) → (refusal ≡ NoMemory → LacksRoomFor old exreg_need) → MayRefuse (exreg_refusal old thread) refusal → new ≡ old → MayObey old (Exreg thread target control) (Refused refusal) new
  unfolding cause_of
  exreg_refused thread target control refusal lacks may stays = refused_or old new (Exreg thread target control) refusal refl lacks may stays

  pub broke_obeys : (thread : ℕ) → IsTrue (is_live old.history thread) → Breaks old new thread → MayObey old (Broke thread) Done new
  unfolding cause_of Does
  broke_obeys thread live does = obeys old new (Broke thread) Done (rw live refl) does

  pub broke_refused : (thread : ℕ) (refusal : Refusal) → is_live old.history thread ≡ false → refusal ≡ NoThread → new ≡ old → MayObey old (Broke thread) (Refused refusal) new
  unfolding cause_of
  broke_refused thread refusal ended is stays = refused old new (Broke thread) refusal (rw ended (ap (λ r. Some r) (sym is))) stays

  pub at_obeys : (reading : ℕ) → Ticks old new reading → MayObey old (At reading) Done new
  unfolding cause_of Does
  at_obeys reading does = obeys old new (At reading) Done refl does

  pub advance_moved : Advances old new → MayObey old Advance (Advanced Moved) new
  unfolding cause_of Does
  advance_moved does = obeys old new Advance (Advanced Moved) refl does

  pub advance_idle : next_moving old.history ≡ None → new ≡ rested old → MayObey old Advance (Advanced Idle) new
  unfolding cause_of Does
  advance_idle none stays = obeys old new Advance (Advanced Idle) refl (none, stays)

  pub take_obeys : (thread : ℕ) (outcome : Option OutcomeParts) → Gives old new thread outcome → MayObey old (Take thread) (Taken outcome) new
  unfolding cause_of Does
  take_obeys thread outcome does = obeys old new (Take thread) (Taken outcome) refl does

  -- what the contracts say of a result
  pub opened_so : (number space : ℕ) (result : Result ℕ Refusal) → IfOk result (λ thread. (open_refusal old number space ≡ None) × Opens old new number space thread) → IfErr result (λ refusal. MayRefuse (open_refusal old number space) refusal) → (result ≡ Err NoMemory → LacksRoomFor old open_need) → OnErr result (new ≡ old) → MayObey old (Open number space) (open_answer result) new
  opened_so number space (Ok thread) ok cause memory stays = open_obeys number space thread ok.0 ok.1
  opened_so number space (Err refusal) ok cause memory stays = open_refused number space refusal (λ is. memory (ap Err is)) cause stays

  pub entered_so : (thread : ℕ) (call : CallParts) (result : Result ℕ EnterRefused) → IfOk result (λ number. (enter_refusal old thread call ≡ None) × Enters old new number thread call) → IfErr result (λ refused. MayRefuse (enter_refusal old thread call) refused.refusal) → OnErr result (new ≡ old) → MayObey old (Enter thread call) (enter_answer result) new
  entered_so thread call (Ok number) ok cause stays = enter_obeys thread number call ok.0 ok.1
  entered_so thread call (Err refused) ok cause stays = enter_refused thread call refused.refusal cause stays

  pub exchanged_so : (thread target control : ℕ) (result : Result ExregAnswer Refusal) → IfOk result (λ answer. (exreg_refusal old thread ≡ None) × Exchanges old new thread target control answer) → IfErr result (λ refusal. MayRefuse (exreg_refusal old thread) refusal) → (result ≡ Err NoMemory → LacksRoomFor old exreg_need) → OnErr result (new ≡ old) → MayObey old (Exreg thread target control) (exreg_result result) new
  exchanged_so thread target control (Ok answer) ok cause memory stays = exreg_obeys thread target control answer ok.0 ok.1
  exchanged_so thread target control (Err refusal) ok cause memory stays = exreg_refused thread target control refusal (λ is. memory (ap Err is)) cause stays

  pub broken_so : {T E : Type 0} (thread : ℕ) (result : Result T E) → OnOk result (IsTrue (is_live old.history thread) × Breaks old new thread) → OnErr result (is_live old.history thread ≡ false) → OnErr result (new ≡ old) → MayObey old (Broke thread) (broke_answer result) new
  broken_so thread (Ok done) ok gone stays = broke_obeys thread ok.0 ok.1
  broken_so thread (Err none) ok gone stays = broke_refused thread NoThread gone refl stays

  pub advanced_so : (result : Step) → (result ≡ Moved → Advances old new) → (result ≡ Idle → (next_moving old.history ≡ None) × (new ≡ rested old)) → MayObey old Advance (Advanced result) new
  advanced_so Moved moved idle = advance_moved (moved refl)
  advanced_so Idle moved idle = advance_idle (idle refl).0 (idle refl).1
