-- The counts of events.
use Rattle.std.specs.Prelude.{◌≡◌, ℕ, ◌-◌, ◌/◌, ◌^◌, List, [], Bool, true, false, Option, Some, None}
use Rattle.std.specs.Prelude.{count_by, filter_map, length, min, slice_index, sum_by}
use Rattle.std.specs.List.Sorted.{IsPermutation, IsSorted}
use Rattle.std.specs.Ordering.{nat_cmp}
use Rattle.l4sh_look.specs.declared.event.Event.{Event}
use Rattle.l4sh_look.specs.declared.event.Happening.{Happening}
use Rattle.l4sh_look.specs.declared.event.Happening.TheVariants.{Call, Message, Failure}
use Rattle.l4sh_look.specs.declared.row.Row.{Row}
use Rattle.l4sh_look.specs.declared.row.Waits.{Waits}

abbrev pub is_a_call : Happening → Bool
is_a_call Call = true
is_a_call (Message bytes sent received) = false
is_a_call Failure = false

abbrev pub is_a_message : Happening → Bool
is_a_message Call = false
is_a_message (Message bytes sent received) = true
is_a_message Failure = false

abbrev pub is_a_failure : Happening → Bool
is_a_failure Call = false
is_a_failure (Message bytes sent received) = false
is_a_failure Failure = true

abbrev pub bytes_of : Happening → ℕ
bytes_of Call = 0
bytes_of (Message bytes sent received) = bytes
bytes_of Failure = 0

abbrev pub sent_of : Happening → Option ℕ
sent_of Call = None
sent_of (Message bytes sent received) = Some sent
sent_of Failure = None

abbrev pub received_of : Happening → Option ℕ
received_of Call = None
received_of (Message bytes sent received) = Some received
received_of Failure = None

-- whether an event is a call, a message or a failure, and what a message has
abbrev pub is_call : Event → Bool
is_call event = is_a_call event.what

abbrev pub is_message : Event → Bool
is_message event = is_a_message event.what

abbrev pub is_failure : Event → Bool
is_failure event = is_a_failure event.what

abbrev pub bytes_in : Event → ℕ
bytes_in event = bytes_of event.what

abbrev pub sent_in : Event → Option ℕ
sent_in event = sent_of event.what

abbrev pub received_in : Event → Option ℕ
received_in event = received_of event.what

-- of times in their order, the least one that all but one of so many are not past
abbrev pub all_but_one_of : ℕ → List ℕ → ℕ
all_but_one_of many times = slice_index times (length times - 1 - length times / many)

-- of times in their order, the median, the one of 99 of 100, and the last
pub record AreWaits (times : List ℕ) (waits : Waits) : Type 0 where
  pub median : waits.median ≡ all_but_one_of 2 times
  pub most : waits.most ≡ all_but_one_of 100 times
  pub longest : waits.longest ≡ slice_index times (length times - 1)

-- of times in any order; none of no time
abbrev pub AreWaitsOf : List ℕ → Option Waits → Type 0
AreWaitsOf times None = times ≡ []
AreWaitsOf times (Some waits) =
    (sorted : List ℕ) × IsPermutation times sorted × IsSorted nat_cmp sorted × AreWaits sorted waits

-- how many calls, messages and failures, the bytes of the messages, and how long their phases took
pub record IsRowOf (events : List Event) (row : Row) : Type 0 where
  pub calls : row.calls ≡ count_by is_call events
  pub messages : row.messages ≡ count_by is_message events
  pub bytes : row.bytes ≡ min (sum_by bytes_in events) (2 ^ 64 - 1)
  pub failures : row.failures ≡ count_by is_failure events
  pub sent : AreWaitsOf (filter_map sent_in events) row.sent
  pub received : AreWaitsOf (filter_map received_in events) row.received
