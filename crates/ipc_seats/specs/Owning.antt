-- Whose an event is: which were made by the reader's end of a connection, and what such an end
-- knows of the log.
use Rattle.std.specs.Prelude.{◌≡◌, ◌==◌, ◌&&◌, ◌++◌, ◌∷◌, [], ℕ, List, Bool, false}
use mathlib.Core.List.{IsPrefix}
use Rattle.ipc_base.specs.LogRules.{entries_of, numbers_of}
use Rattle.ipc_base.specs.LogViews.{Known}
use Rattle.ipc_seats.specs.declared.events.Event.{Event}
use Rattle.ipc_seats.specs.declared.events.Event.TheVariants as event

-- whether this number is the one of a list of one
abbrev pub is_only : ℕ → List ℕ → Bool
is_only number (own ∷ []) = own == number
is_only number owns = false

-- whether an event was made by the reader's end of the connection of a number: its beginning, what
-- it asked for, what it posted, its end, and that its box was given back
abbrev pub is_by : Event → ℕ → Bool
is_by (event.Connected place own) number = own == number
is_by (event.Asked now place owns requests space said gave) number = is_only number owns
is_by (event.Posted place owns said) number = is_only number owns
is_by (event.Ended now place own is_by_reader gave) number = is_by_reader && (own == number)
is_by (event.Released place own) number = own == number
is_by (event.Declined own) number = false
is_by (event.Acted now commands answers gave) number = false
is_by (event.Looked place gave) number = false
is_by (event.Laid gave) number = false
is_by (event.Worked place own gave) number = false
is_by (event.Took thread taken outcomes) number = false
is_by (event.Marked upto) number = false
is_by event.Parted number = false

-- the number that an event gave, to a connection that got a box, or for which there was no memory
abbrev pub numbers_by : Event → List ℕ
numbers_by (event.Connected place number) = number ∷ []
numbers_by (event.Declined number) = number ∷ []
numbers_by (event.Acted now commands answers gave) = []
numbers_by (event.Asked now place number requests space said gave) = []
numbers_by (event.Ended now place number is_by_reader gave) = []
numbers_by (event.Posted place number said) = []
numbers_by (event.Looked place gave) = []
numbers_by (event.Laid gave) = []
numbers_by (event.Worked place number gave) = []
numbers_by (event.Released place number) = []
numbers_by (event.Took thread taken outcomes) = []
numbers_by (event.Marked upto) = []
numbers_by event.Parted = []

-- the number of the connection that ends with an event: its box is given back
abbrev pub ended_by : Event → List ℕ
ended_by (event.Released place number) = number ∷ []
ended_by (event.Connected place number) = []
ended_by (event.Declined number) = []
ended_by (event.Acted now commands answers gave) = []
ended_by (event.Asked now place number requests space said gave) = []
ended_by (event.Ended now place number is_by_reader gave) = []
ended_by (event.Posted place number said) = []
ended_by (event.Looked place gave) = []
ended_by (event.Laid gave) = []
ended_by (event.Worked place number gave) = []
ended_by (event.Took thread taken outcomes) = []
ended_by (event.Marked upto) = []
ended_by event.Parted = []

-- the events of a log that the reader's end of the connection of a number made, in order
abbrev pub done_by : ℕ → List Event → List Event
done_by number log = entries_of is_by number log

-- what an end knows of the log is true of this one: it saw a beginning of it, and knows all events
-- of it that it made
pub record Knows (own : Known Event) (log : List Event) : Type 0 where
  pub began : IsPrefix own.seen log
  pub all : own.mine ≡ done_by own.number log

-- an end that knew this log made one more event, and saw the log up to it
pub record Makes (own own_now : Known Event) (before after : List Event) (next : Event) : Type 0 where
  pub knew : Knows own before
  pub number : own_now.number ≡ own.number
  pub mine : own_now.mine ≡ own.mine ++ next ∷ []
  pub seen : own_now.seen ≡ after

-- an end that knew this log made no event, and saw the log
pub record Sees (own own_now : Known Event) (log : List Event) : Type 0 where
  pub knew : Knows own log
  pub number : own_now.number ≡ own.number
  pub mine : own_now.mine ≡ own.mine
  pub seen : own_now.seen ≡ log

-- an end begins: it made this event, and saw the log up to it
pub record Begins (own : Known Event) (log : List Event) (next : Event) : Type 0 where
  pub mine : own.mine ≡ next ∷ []
  pub seen : own.seen ≡ log

-- who has the roll was told of each connection that had ended in this log, and is told of one more
pub record Rolls (roll roll_now before after : List Event) : Type 0 where
  pub began : IsPrefix roll before
  pub ended : numbers_of ended_by roll ≡ numbers_of ended_by before
  pub now : roll_now ≡ after

-- what an end knows at least when it begins: the event that gave it its box and its number
abbrev pub at_first : ℕ → ℕ → Known Event
at_first place number = record { number = number; mine = event.Connected place number ∷ []; seen = [] }
