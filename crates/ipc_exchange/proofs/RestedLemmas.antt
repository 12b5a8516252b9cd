-- A kernel at rest obeys as it does, and what is told of one depends on no room.
use Rattle.std.proofs.Common.{◌≡◌, ℕ, Bool, true, false, refl, sym, ap, subst, ◌∙◌, List, Option, Some, None, inl, inr}
use Rattle.std.specs.Prelude.{MatchBool}
use Rattle.ipc_history.specs.declared.entry.Input.{Input}
use Rattle.ipc_core.specs.KernelParts.{KernelParts, without_room}
use Rattle.ipc_core.specs.Obeying.{Does, LacksRoom, MayObey, Obeys, ObeysOr, cause_of}
use Rattle.ipc_core.specs.Outcomes.{has_untaken, is_busy, outcome_to_take}
use Rattle.ipc_core.specs.Refusals.{enter_refusal, exreg_refusal, open_refusal}
use Rattle.ipc_core.specs.Again.{MayObeyAgain, is_history_full, lacks_entries}
use Rattle.ipc_core.specs.Compacting.{Compacts}
use Rattle.ipc_core.specs.Room.{is_full}
use Rattle.ipc_core.specs.Steps.{Takes}
use Rattle.ipc_core.specs.declared.answers.Advance.TheVariants.{Moved, Idle}
use Rattle.ipc_core.specs.declared.answers.Compacted.{Compacted}
use Rattle.ipc_core.specs.declared.command.Answer.{Answer}
use Rattle.ipc_core.specs.declared.command.Answer.TheVariants.{Opened, Entered, Exchanged, Done, Advanced, Taken}
use Rattle.ipc_core.specs.declared.command.Command.{Command}
use Rattle.ipc_core.specs.declared.command.Command.TheVariants.{Open, Enter, Exreg, Broke, At, Advance, Take}
use Rattle.ipc_core.specs.declared.refusal.Refusal.{Refusal}
use Rattle.ipc_connection.specs.declared.stage.Stage.{Stage}
use Rattle.ipc_connection.specs.declared.stage.Stage.TheVariants.{Greeting, Serving, Finished}
use Rattle.ipc_exchange.specs.Service.{ConnectionParts, at_rest, outcome_at}
use Rattle.ipc_exchange.specs.Serving.{MayLack, ObeysIn}
use Rattle.ipc_exchange.proofs.MovedLemmas.{PassesTold}

pub same_outcome : (kernel : KernelParts) (thread : ℕ) → outcome_to_take (at_rest kernel) thread ≡ outcome_to_take kernel thread
unfolding outcome_to_take
same_outcome kernel thread = refl

takes_rested : (old new : KernelParts) (given : Input) → Takes old new given → Takes (at_rest old) new given
takes_rested old new given takes = record { history = takes.history; legal = takes.legal; since = takes.since; moment = takes.moment; entries_limit = takes.entries_limit; calls_limit = takes.calls_limit; held = takes.held; room = takes.room }

does_rested : (old new : KernelParts) (command : Command) (answer : Answer) → Does old command answer new → Does (at_rest old) command answer new
unfolding Does outcome_to_take
does_rested old new (Open number space) (Opened t) a = record { number_is = a.number_is; version_is = a.version_is; takes = takes_rested old new _ a.takes; taken = a.taken }
does_rested old new (Enter thread call) (Entered n) a = record { number_is = a.number_is; takes = takes_rested old new _ a.takes; taken = a.taken }
does_rested old new (Exreg thread target control) (Exchanged x) a = record { answer_is = a.answer_is; takes = takes_rested old new _ a.takes; taken = a.taken }
does_rested old new (Broke thread) Done a = record { takes = takes_rested old new _ a.takes; taken = a.taken; room = a.room }
does_rested old new (At reading) Done a = record { moment = a.moment; history = a.history; legal = a.legal; since = a.since; taken = a.taken; entries_limit = a.entries_limit; calls_limit = a.calls_limit; held = a.held; room = a.room }
does_rested old new Advance (Advanced Moved) a = record { number = a.number; is_next = a.is_next; takes = takes_rested old new _ a.takes; taken = a.taken; room = a.room }
does_rested old new Advance (Advanced Idle) a = (a.0, a.1)
does_rested old new (Take thread) (Taken outcome) a = record { outcome_is = a.outcome_is; taken = a.taken }
does_rested old new _ _ a = absurd a

cause_rested : (kernel : KernelParts) (command : Command) → cause_of (at_rest kernel) command ≡ cause_of kernel command
unfolding cause_of open_refusal enter_refusal exreg_refusal is_busy has_untaken is_full
cause_rested kernel (Open number space) = refl
cause_rested kernel (Enter thread call) = refl
cause_rested kernel (Exreg thread target control) = refl
cause_rested kernel (Broke thread) = refl
cause_rested kernel (At reading) = refl
cause_rested kernel Advance = refl
cause_rested kernel (Take thread) = refl

-- there is as much room
lacks_rested : (kernel : KernelParts) (command : Command) → LacksRoom kernel command → LacksRoom (at_rest kernel) command
lacks_rested kernel (Open number space) lacks = lacks
lacks_rested kernel (Enter thread call) lacks = tt
lacks_rested kernel (Exreg thread target control) lacks = lacks
lacks_rested kernel (Broke thread) lacks = tt
lacks_rested kernel (At reading) lacks = tt
lacks_rested kernel Advance lacks = tt
lacks_rested kernel (Take thread) lacks = tt

-- a command that was obeyed at once: what comes of it is at rest what comes of the kernel at rest
record ObeysRested (old : KernelParts) (command : Command) (answer : Answer) (new : KernelParts) : Type 0 where
  pub after : KernelParts
  pub answers : MayObey (at_rest old) command answer after
  pub new_is : at_rest new ≡ at_rest after

obeys_rested : (old : KernelParts) (command : Command) (answer : Answer) (new : KernelParts) → MayObey old command answer new → ObeysRested old command answer new
unfolding Obeys
obeys_rested old command answer new (inr lacks) = record {
  after = at_rest old;
  answers = inr (record { takes_memory = lacks.takes_memory; no_other_cause = cause_rested old command ∙ lacks.no_other_cause; lacks_room = lacks_rested old command lacks.lacks_room; answer_is = lacks.answer_is; stays = refl });
  new_is = ap at_rest lacks.stays;
}
obeys_rested old command answer new (inl obeys) = go (cause_of old command) refl obeys
  where
    go : (cause : Option Refusal) → cause_of old command ≡ cause → ObeysOr cause old command answer new → ObeysRested old command answer new
    go None e does = record {
      after = new;
      answers = inl (subst (λ o. ObeysOr o (at_rest old) command answer new) (sym (cause_rested old command ∙ e)) (does_rested old new command answer does));
      new_is = refl;
    }
    go (Some refusal) e refused = record {
      after = at_rest old;
      answers = inl (subst (λ o. ObeysOr o (at_rest old) command answer (at_rest old)) (sym (cause_rested old command ∙ e)) (refused.0, refl));
      new_is = ap at_rest refused.1;
    }

-- a kernel at rest that has the same room as one
compacts_rested : (old new : KernelParts) (upto : ℕ) (done : Compacted) → Compacts old new upto done → Compacts (at_rest old) new upto done
compacts_rested old new upto done c = record { history = c.history; held = c.held; left = c.left; dropped = c.dropped; entries_limit = c.entries_limit; room = c.room; taken = c.taken; since = c.since; moment = c.moment; calls_limit = c.calls_limit }

lacking_rested : (old : KernelParts) (command : Command) → lacks_entries (at_rest old) command ≡ lacks_entries old command
lacking_rested old command = ap is_history_full (cause_rested old command)

pub rested_obeys : (old : KernelParts) (command : Command) (answer : Answer) (new : KernelParts) → MayObeyAgain old.held.mark old command answer new → ObeysIn MayLack (at_rest old) command answer (at_rest new)
rested_obeys old command answer new again = go (lacks_entries old command) refl again.makes_room
  where
    go : (b : Bool) → lacks_entries old command ≡ b → MatchBool b ((done : Compacted) × Compacts old again.roomy old.held.mark done) (again.roomy ≡ old) → ObeysIn MayLack (at_rest old) command answer (at_rest new)
    go true e (done, compacts) = record {
      roomy = again.roomy;
      makes_room = subst (λ b. MatchBool b ((d : Compacted) × Compacts (at_rest old) again.roomy old.held.mark d) (again.roomy ≡ at_rest old)) (sym (lacking_rested old command ∙ e)) (done, compacts_rested old again.roomy old.held.mark done compacts);
      after = new;
      answers = again.obeys;
      new_is = refl;
    }
    go false e same =
        let rested = obeys_rested old command answer new (subst (λ (k : KernelParts). MayObey k command answer new) same again.obeys) in
        record {
          roomy = at_rest old;
          makes_room = subst (λ b. MatchBool b ((d : Compacted) × Compacts (at_rest old) (at_rest old) old.held.mark d) (at_rest old ≡ at_rest old)) (sym (lacking_rested old command ∙ e)) refl;
          after = rested.after;
          answers = rested.answers;
          new_is = rested.new_is;
        }

-- a command that is never refused for want of room
pub rested_alone : (old : KernelParts) (command : Command) (answer : Answer) (new : KernelParts) → lacks_entries old command ≡ false → MayObey old command answer new → ObeysIn MayLack (at_rest old) command answer (at_rest new)
rested_alone old command answer new other obeys = rested_obeys old command answer new (record {
  roomy = old;
  makes_room = subst (λ b. MatchBool b ((d : Compacted) × Compacts old old old.held.mark d) (old ≡ old)) (sym other) refl;
  obeys = obeys;
})

-- the room aside

bare_outcome : (kernel : KernelParts) (stage : Stage) → outcome_at (without_room kernel) stage ≡ outcome_at kernel stage
unfolding outcome_to_take
bare_outcome kernel (Serving thread) = refl
bare_outcome kernel Greeting = refl
bare_outcome kernel Finished = refl

-- what is told is alike
pub roomless : PassesTold without_room (λ (connections : List ConnectionParts). connections) (λ (connections : List ConnectionParts). Unit {0})
roomless = record {
  outcome = bare_outcome;
  taken = λ kernel outcome. refl;
  stage = λ connections place. refl;
  space = λ connections place. refl;
  version = λ connections place. refl;
  moment = λ kernel. refl;
  more = λ connections place next speaks text fits. refl;
  fits_more = λ connections place next speaks text fits. tt;
  new = λ connections space fits. refl;
  fits_new = λ connections space fits. tt;
  place = λ number connections. refl;
}
