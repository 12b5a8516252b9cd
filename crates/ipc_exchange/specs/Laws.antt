-- What holds of every exchange.
use Rattle.std.specs.Prelude.{◌≡◌, ℕ, ◌<◌, List, ◌++◌, Option, Some, None, filter_map, length, ◌↔◌}
use mathlib.Core.List.{IsPrefix}
use Rattle.ipc_history.specs.CallParts.{CallParts}
use Rattle.ipc_history.specs.Legal.{Legal}
use Rattle.ipc_history.specs.declared.entry.Entry.{Entry}
use Rattle.ipc_history.specs.declared.entry.Entry.TheVariants.{Given}
use Rattle.ipc_history.specs.declared.entry.Input.TheVariants.{Called}
use Rattle.ipc_core.specs.KernelParts.{without_room}
use Rattle.ipc_core.specs.declared.command.Answer.{Answer}
use Rattle.ipc_core.specs.declared.command.Answer.TheVariants.{Entered}
use Rattle.ipc_core.specs.declared.command.Command.{Command}
use Rattle.ipc_core.specs.declared.command.Command.TheVariants.{Enter}
use Rattle.ipc_exchange.specs.Service.{connection_at}
use Rattle.ipc_exchange.specs.Serving.{Ample, Asked, Memory}
use Rattle.ipc_exchange.specs.Events.{Event, ExchangeParts, Feeds, HappenAll}

-- a piece and then another, with what was asked for each
pub record FeedsTwo (old : ExchangeParts) (place : ℕ) (a b : List ℕ) (asked : List Asked) (new : ExchangeParts) : Type 0 where
  pub between : ExchangeParts
  pub first : List Asked
  pub rest : List Asked
  pub asked_is : asked ≡ first ++ rest
  pub feeds : Feeds Ample old place a first between
  pub feeds_more : Feeds Ample between place b rest new

-- where no growth is refused, a piece and then another are the two joined
abbrev pub PiecesJoin : Type 0
PiecesJoin = (old new : ExchangeParts) (place : ℕ) (a b : List ℕ) (asked : List Asked)
    → place < length old.held
    → FeedsTwo old place a b asked new ↔ Feeds Ample old place (a ++ b) asked new

-- a legal history stays legal, whatever happens
abbrev pub LegalStays : Type 0
LegalStays = (memory : Memory) (old new : ExchangeParts) (events : List Event) (asked : List Asked)
    → HappenAll memory old events asked new
    → Legal old.service.kernel.history → Legal new.service.kernel.history

-- the calls of a history, with their callers, and those that were accepted
abbrev pub call_in : Entry → Option (ℕ × CallParts)
call_in (Given (Called n thread call)) = Some (thread, call)
call_in _ = None

abbrev pub calls_in : List Entry → List (ℕ × CallParts)
calls_in H = filter_map call_in H

abbrev pub accepted_by : Command → Answer → Option (ℕ × CallParts)
accepted_by (Enter thread call) (Entered number) = Some (thread, call)
accepted_by _ _ = None

abbrev pub accepted : Asked → Option (ℕ × CallParts)
accepted asked = accepted_by asked.command asked.answer

-- the calls of the history are those that the kernel accepted, in order
abbrev pub CallsAreAccepted : Type 0
CallsAreAccepted = (memory : Memory) (old new : ExchangeParts) (events : List Event) (asked : List Asked)
    → HappenAll memory old events asked new
    → calls_in new.service.kernel.history
    ≡ calls_in old.service.kernel.history ++ filter_map accepted asked

-- all that is seen of an exchange but the room of its history
abbrev pub without_history_room : ExchangeParts → ExchangeParts
without_history_room old = record {
  service = record { kernel = without_room old.service.kernel; connections = old.service.connections };
  held = old.held;
}

-- without want of memory each list of events has one end, in all that is seen but the room of the
-- history, and one trace of commands and answers
abbrev pub HappenOnce : Type 0
HappenOnce = (old one other : ExchangeParts) (events : List Event) (asked others : List Asked)
    → Legal old.service.kernel.history
    → HappenAll Ample old events asked one → HappenAll Ample old events others other
    → (asked ≡ others) × (without_history_room one ≡ without_history_room other)

-- what waits on a connection gets more at its end alone. So what went out on it, followed by what
-- waits, is all that was told it, in order
abbrev pub OutGrows : Type 0
OutGrows = (memory : Memory) (old new : ExchangeParts) (events : List Event) (asked : List Asked)
    → HappenAll memory old events asked new
    → (place : ℕ) → IsPrefix (connection_at old.service.connections place).out (connection_at new.service.connections place).out
