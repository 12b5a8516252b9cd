-- The counts of events that came one by one.
use Rattle.std.specs.Prelude.{◌≡◌, ◌-◌, ◌^◌, List, [], ◌∷◌, ◌++◌, Bool, true, false, Option, Some, None, count_by, filter, filter_map, min, sum_by}
use Rattle.std.specs.BTreeMap.{BTreeMap, get}
use Rattle.l4sh_look.specs.Groups.{Pair, compare_pairs, is_of}
use Rattle.l4sh_look.specs.Rows.{bytes_in, is_call, is_failure, is_message, received_in, sent_in}
use Rattle.l4sh_look.specs.Runs.{AreHeld}
use Rattle.l4sh_look.specs.declared.counts.Counts.{Counts}
use Rattle.l4sh_look.specs.declared.event.Event.{Event}
use Rattle.l4sh_look.specs.declared.tally.Tally.{Tally}

-- what is held of events
pub record IsTally (events : List Event) (tally : Tally) : Type 0 where
  pub calls : tally.calls ≡ count_by is_call events
  pub messages : tally.messages ≡ count_by is_message events
  pub bytes : tally.bytes ≡ min (sum_by bytes_in events) (2 ^ 64 - 1)
  pub failures : tally.failures ≡ count_by is_failure events
  pub sent : AreHeld (filter_map sent_in events) tally.sent
  pub received : AreHeld (filter_map received_in events) tally.received

-- what a map has for a pair: nothing where no event is of it
abbrev pub IsTallyOf : List Event → Option Tally → Type 0
IsTallyOf events None = events ≡ []
IsTallyOf events (Some tally) = IsTally events tally

-- for each pair its events, and all together
pub record IsCounted (events : List Event) (counts : Counts) : Type 0 where
  pub pairs : (pair : Pair) → IsTallyOf (filter (is_of pair) events) (get compare_pairs counts.groups pair)
  pub all : IsTally events counts.all

-- an event of a pair is counted there, and those of every other pair stay
abbrev pub AddsTo : Bool → Option Tally → Option Tally → Event → Type 0
AddsTo true old new event = (events : List Event) → IsTallyOf events old → IsTallyOf (events ++ event ∷ []) new
AddsTo false old new event = new ≡ old

abbrev pub AddsEvent : BTreeMap Pair Tally → BTreeMap Pair Tally → Event → Type 0
AddsEvent old new event = (pair : Pair)
    → AddsTo (is_of pair event) (get compare_pairs old pair) (get compare_pairs new pair) event
