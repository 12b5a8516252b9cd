-- A message that passes at once: its transfer ends as soon as it begins.
use Rattle.std.specs.Prelude.{◌≡◌, ℕ, List, Bool, ◌==◌, ◌&&◌}
use Rattle.ipc_history.specs.Calls.{caller_of, message_size}
use Rattle.ipc_history.specs.Matching.{shown_sender}
use Rattle.ipc_history.specs.declared.entry.Entry.{Entry}
use Rattle.ipc_threads.specs.Passing.{AreHeld}
use Rattle.ipc_threads.specs.Slot.{Slot}
use Rattle.ipc_threads.specs.declared.pair.Pair.{Pair}

-- a message of words alone, which shows its caller
abbrev pub passes_at_once : List Entry → ℕ → Bool
passes_at_once P n = (message_size P n == 0) && (shown_sender P n == caller_of P n)

-- a pair is of these calls, and the slots at its places hold them
pub record IsPairOf (table : List Slot) (sending receiving : ℕ) (pair : Pair) : Type 0 where
  pub sending_is : pair.sending ≡ sending
  pub receiving_is : pair.receiving ≡ receiving
  pub held : AreHeld table pair
