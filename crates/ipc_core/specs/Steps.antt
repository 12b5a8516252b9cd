-- What a command does to a kernel.
use Rattle.std.specs.Prelude.{◌≡◌, ℕ, ◌+◌, ◌≤◌, List, [], ◌∷◌, ◌++◌, nat_lt, if◌then◌else◌, Option, Some}
use Rattle.std.specs.Prelude.{None, max, min, length, ◌⊎◌}
use Rattle.ipc_words.specs.Limits.{last_moment}
use Rattle.ipc_words.specs.ThreadId.{number_of, version_of}
use Rattle.ipc_history.specs.Calls.{calls_made}
use Rattle.ipc_history.specs.Threads.{now, next_version}
use Rattle.ipc_history.specs.Blocks.{block_of}
use Rattle.ipc_history.specs.Outcomes.{OutcomeParts}
use Rattle.ipc_history.specs.Legal.{Legal, next_moving}
use Rattle.ipc_history.specs.CallParts.{CallParts}
use Rattle.ipc_history.specs.Settled.{Settled}
use Rattle.ipc_history.specs.declared.entry.Entry.{Entry}
use Rattle.ipc_history.specs.declared.entry.Entry.TheVariants.{Given}
use Rattle.ipc_history.specs.declared.entry.Input.{Input}
use Rattle.ipc_history.specs.declared.entry.Input.TheVariants.{At, Opened, Called, Moved}
use Rattle.ipc_core.specs.KernelParts.{KernelParts}
use Rattle.ipc_core.specs.declared.refusal.Refusal.{Refusal}
use Rattle.ipc_core.specs.declared.refusal.Refusal.TheVariants.{NoMemory}

-- the At of a moment that is later than the history's
abbrev pub at_if_later : List Entry → ℕ → List Entry
at_if_later H moment = (if nat_lt (now H) moment then Given (At moment) ∷ [] else [])

-- a history, the At of a later moment, and an input
abbrev pub with_input : List Entry → ℕ → Input → List Entry
with_input H moment input = H ++ at_if_later H moment ++ Given input ∷ []

-- the kernel took an input: after the old history come the At of the moment where that is later,
-- the input, the outputs until none applies, and nothing else; a legal history stays legal; limits
-- and moment stay, and memory lets go of no entry; its room does not shrink
pub record Takes (old new : KernelParts) (input : Input) : Type 0 where
  pub history : Settled (with_input old.history old.moment input) new.history
  pub legal : Legal old.history → Legal new.history
  pub since : new.since ≡ length old.history
  pub moment : new.moment ≡ old.moment
  pub entries_limit : new.entries_limit ≡ old.entries_limit
  pub calls_limit : new.calls_limit ≡ old.calls_limit
  pub held : new.held ≡ old.held
  pub room : old.room ≤ new.room

-- the moment after a clock reading: it never goes back, and stops at the last one
abbrev pub at_moment : KernelParts → ℕ → ℕ
at_moment kernel moment = max kernel.moment (min moment last_moment)

-- a refusal has its cause: the first that applies, or no memory where none does
abbrev pub MayRefuse : Option Refusal → Refusal → Type 0
MayRefuse cause refusal = (cause ≡ Some refusal) ⊎ ((cause ≡ None) × (refusal ≡ NoMemory))

-- an open: the next version of the number, live from then on
pub record Opens (old new : KernelParts) (number space thread : ℕ) : Type 0 where
  pub number_is : number_of thread ≡ number
  pub version_is : next_version old.history number ≡ Some (version_of thread)
  pub takes : Takes old new (Opened thread space)
  pub taken : new.taken ≡ old.taken

-- a call: it gets the next number
pub record Enters (old new : KernelParts) (number thread : ℕ) (call : CallParts) : Type 0 where
  pub number_is : number ≡ calls_made old.history + 1
  pub takes : Takes old new (Called number thread call)
  pub taken : new.taken ≡ old.taken

-- a copy: of the least call in transfer, its next block
pub record Advances (old new : KernelParts) : Type 0 where
  pub number : ℕ
  pub is_next : next_moving old.history ≡ Some number
  pub takes : Takes old new (Moved number (block_of old.history number))
  pub taken : new.taken ≡ old.taken
  pub room : new.room ≡ old.room

-- which outcomes were taken after one more, or after none
abbrev pub taken_after : Option OutcomeParts → List ℕ → List ℕ
taken_after None taken = taken
taken_after (Some outcome) taken = taken ++ outcome.call ∷ []
