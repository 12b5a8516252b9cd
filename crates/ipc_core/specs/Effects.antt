-- What an ExchangeRegisters, a break, a clock reading and the taking of an outcome do to a kernel.
use Rattle.std.specs.Prelude.{◌≡◌, ℕ, [], ◌∷◌, ◌++◌, Option, MatchBool, length}
use Rattle.std.specs.List.{list_any}
use Rattle.ipc_words.specs.Control.{masked_of}
use Rattle.ipc_history.specs.Calls.{numbers}
use Rattle.ipc_history.specs.Legal.{Legal}
use Rattle.ipc_history.specs.Outcomes.{OutcomeParts}
use Rattle.ipc_history.specs.Settled.{Settled}
use Rattle.ipc_history.specs.Timing.{is_due_at}
use Rattle.ipc_history.specs.declared.entry.Entry.TheVariants.{Given}
use Rattle.ipc_history.specs.declared.entry.Input.TheVariants.{At, Broke, Exreg}
use Rattle.ipc_core.specs.ExchangeRegisters.{exreg_answer}
use Rattle.ipc_core.specs.KernelParts.{KernelParts}
use Rattle.ipc_core.specs.Outcomes.{outcome_to_take}
use Rattle.ipc_core.specs.Steps.{Takes, at_moment, taken_after}
use Rattle.ipc_core.specs.declared.answers.ExregAnswer.{ExregAnswer}

-- an ExchangeRegisters: it is answered by the phases before it
pub record Exchanges (old new : KernelParts) (thread target control : ℕ) (answer : ExregAnswer) : Type 0 where
  pub answer_is : answer ≡ exreg_answer old.history thread target
  pub takes : Takes old new (Exreg thread target (masked_of control))
  pub taken : new.taken ≡ old.taken

-- a break: nothing is to be taken any more for the thread, since it is not live
pub record Breaks (old new : KernelParts) (thread : ℕ) : Type 0 where
  pub takes : Takes old new (Broke thread)
  pub taken : new.taken ≡ old.taken
  pub room : new.room ≡ old.room

-- a clock reading: the moment never goes back, and an At is written only where a phase is due then
pub record Ticks (old new : KernelParts) (reading : ℕ) : Type 0 where
  pub moment : new.moment ≡ at_moment old reading
  pub history : MatchBool (list_any (is_due_at old.history (at_moment old reading)) (numbers old.history))
      (Settled (old.history ++ Given (At (at_moment old reading)) ∷ []) new.history)
      (new.history ≡ old.history)
  pub legal : Legal old.history → Legal new.history
  pub since : new.since ≡ length old.history
  pub taken : new.taken ≡ old.taken
  pub entries_limit : new.entries_limit ≡ old.entries_limit
  pub calls_limit : new.calls_limit ≡ old.calls_limit
  pub held : new.held ≡ old.held
  pub room : new.room ≡ old.room

-- a taking: the outcome of the thread's last call, once, and the history stays
pub record Gives (old new : KernelParts) (thread : ℕ) (outcome : Option OutcomeParts) : Type 0 where
  pub outcome_is : outcome ≡ outcome_to_take old thread
  pub taken : new ≡ record old { taken = taken_after outcome old.taken; since = length old.history }
