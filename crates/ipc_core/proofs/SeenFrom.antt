-- What a command does depends neither on the room that is seen of a kernel, nor on where the
-- command before began.
use Rattle.std.proofs.Common.{◌≡◌, ℕ, refl, ap, arith}
use Rattle.ipc_history.specs.declared.entry.Input.{Input}
use Rattle.ipc_core.specs.KernelParts.{KernelParts, without_room}
use Rattle.ipc_core.specs.Obeying.{Does, cause_of}
use Rattle.ipc_core.specs.Outcomes.{has_untaken, is_busy, outcome_to_take}
use Rattle.ipc_core.specs.Refusals.{enter_refusal, exreg_refusal, open_refusal}
use Rattle.ipc_core.specs.Room.{is_full}
use Rattle.ipc_core.specs.Steps.{Takes}
use Rattle.ipc_core.specs.declared.answers.Advance.TheVariants.{Moved, Idle}
use Rattle.ipc_core.specs.declared.command.Answer.{Answer}
use Rattle.ipc_core.specs.declared.command.Answer.TheVariants.{Opened, Entered, Exchanged, Done, Advanced, Taken}
use Rattle.ipc_core.specs.declared.command.Command.{Command}
use Rattle.ipc_core.specs.declared.command.Command.TheVariants.{Open, Enter, Exreg, Broke, At, Advance, Take}

module _ (since : ℕ) where
  -- a kernel that is seen so
  abbrev pub seen_from : KernelParts → KernelParts
  seen_from kernel = record kernel { since = since; room = 0 }

  takes_seen : (old new : KernelParts) (given : Input) → Takes old new given → Takes (seen_from old) (without_room new) given
  takes_seen old new given takes = record { history = takes.history; legal = takes.legal; since = takes.since; moment = takes.moment; entries_limit = takes.entries_limit; calls_limit = takes.calls_limit; held = takes.held; room = omega arith }

  pub does_seen : (old new : KernelParts) (command : Command) (answer : Answer) → Does old command answer new → Does (seen_from old) command answer (without_room new)
  unfolding Does outcome_to_take
  does_seen old new (Open number space) (Opened t) a = record { number_is = a.number_is; version_is = a.version_is; takes = takes_seen old new _ a.takes; taken = a.taken }
  does_seen old new (Enter thread call) (Entered n) a = record { number_is = a.number_is; takes = takes_seen old new _ a.takes; taken = a.taken }
  does_seen old new (Exreg thread target control) (Exchanged x) a = record { answer_is = a.answer_is; takes = takes_seen old new _ a.takes; taken = a.taken }
  does_seen old new (Broke thread) Done a = record { takes = takes_seen old new _ a.takes; taken = a.taken; room = refl }
  does_seen old new (At reading) Done a = record { moment = a.moment; history = a.history; legal = a.legal; since = a.since; taken = a.taken; entries_limit = a.entries_limit; calls_limit = a.calls_limit; held = a.held; room = refl }
  does_seen old new Advance (Advanced Moved) a = record { number = a.number; is_next = a.is_next; takes = takes_seen old new _ a.takes; taken = a.taken; room = refl }
  does_seen old new Advance (Advanced Idle) a = (a.0, ap without_room a.1)
  does_seen old new (Take thread) (Taken outcome) a = record { outcome_is = a.outcome_is; taken = ap without_room a.taken }
  does_seen old new _ _ a = absurd a

  pub cause_seen : (kernel : KernelParts) (command : Command) → cause_of (seen_from kernel) command ≡ cause_of kernel command
  unfolding cause_of open_refusal enter_refusal exreg_refusal is_busy has_untaken is_full
  cause_seen kernel (Open number space) = refl
  cause_seen kernel (Enter thread call) = refl
  cause_seen kernel (Exreg thread target control) = refl
  cause_seen kernel (Broke thread) = refl
  cause_seen kernel (At reading) = refl
  cause_seen kernel Advance = refl
  cause_seen kernel (Take thread) = refl
