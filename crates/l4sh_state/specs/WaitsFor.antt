-- Who waits for whom.
use Rattle.std.specs.Prelude.{◌≡◌, ℕ, ◌<◌, ◌==◌, List, length, Option, Some, None, slice_index_or, option_and_then, if◌then◌else◌}
use Rattle.ipc_words.specs.Limits.{table_slots}
use Rattle.ipc_words.specs.ThreadId.{number_of}
use Rattle.ipc_threads.specs.declared.slot.Live.{Live}
use Rattle.l4sh_state.specs.Waits.{ComesBack}
use Rattle.ipc_threads.specs.declared.slot.Standing.{Standing}
use Rattle.ipc_threads.specs.declared.slot.Phase.{Phase}
use Rattle.ipc_threads.specs.declared.slot.Phase.TheVariants.{Sending, Passing, Receiving, Taking}

-- the thread for which the caller of an open call waits: the receiver of its send phase, or its
-- FromSpecifier as it stands; none while a message passes
abbrev pub awaited_by : Standing → Option ℕ
awaited_by s = of s.phase
  where
    of : Phase → Option ℕ
    of Sending = Some s.to
    of (Passing m) = None
    of Receiving = Some s.awaited
    of (Taking k by bytes) = None

-- the number of a thread, where that is live
abbrev pub place_in : List (Option Live) → ℕ → Option ℕ
place_in threads t =
    option_and_then (λ l. if l.thread == t then Some (number_of t) else None)
    (slice_index_or threads (number_of t) None)

-- the number of the live thread for which the thread of a number waits
abbrev pub waits_at : List (Option Live) → ℕ → Option ℕ
waits_at threads k =
    option_and_then (λ l. option_and_then (λ s. option_and_then (place_in threads) (awaited_by s)) l.call)
    (slice_index_or threads k None)

-- for each number
abbrev pub HasWaits : List (Option Live) → List (Option ℕ) → Type 0
HasWaits threads waits = (k : ℕ) → k < table_slots → slice_index_or waits k None ≡ waits_at threads k

-- of live threads some wait in a circle: following the waits from a number is at it again
pub record HasDeadlock (threads : List (Option Live)) : Type 0 where
  pub waits : List (Option ℕ)
  pub size : length waits ≡ table_slots
  pub are : HasWaits threads waits
  pub place : ℕ
  pub within : place < table_slots
  pub steps : ℕ
  pub circle : ComesBack waits place steps
