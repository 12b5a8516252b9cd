-- What the pens on errands were given is what the log of gifts says more; and what both logs say
-- together.
use Rattle.std.specs.Prelude.{◌≡◌, ◌++◌, ◌∷◌, [], List, Option, Some, None, ⊤}
use Rattle.ipc_connection.specs.Pens.{Page}
use Rattle.ipc_base.specs.LogRules.{numbers_of}
use Rattle.ipc_seats.specs.Gifts.{gifts}
use Rattle.ipc_seats.specs.Giving.{GivesOn, gifts_in, pens_by}
use Rattle.ipc_seats.specs.declared.errands.Errands.{Errands}
use Rattle.ipc_seats.specs.declared.events.Event.{Event}
use Rattle.ipc_seats.specs.declared.events.Gave.{Gave}
use Rattle.ipc_seats.specs.declared.events.Gift.{Gift}
use Rattle.ipc_lock.specs.InsideParts.{InsideParts}
use Rattle.ipc_lock.specs.Logs.{gifts_by}
use Rattle.ipc_lock.specs.Turns.{Runs}

-- the pens on errands stand in the first places
abbrev pub AreFirst : Option Page → Option Page → Option Page → Type 0
AreFirst None None None = ⊤
AreFirst (Some first) None None = ⊤
AreFirst (Some first) (Some second) third = ⊤
AreFirst first second third = ⊥

abbrev pub InOrder : {C P : Type 0} → Errands C P → Type 0
InOrder errands = AreFirst errands.first errands.second errands.third

-- pens came out behind those that were out, and the log of gifts says what they were given
pub record HandsMore {C P : Type 0} (old new : List Gave) (errands errands_now : Errands C P) : Type 0 where
  pub gave : List Gift
  pub gifts_are : gifts errands_now ≡ gifts errands ++ gave
  pub order : InOrder errands_now
  pub gives : GivesOn old new gave

-- the same where those that were out stood in the first places
pub record Hands {C P : Type 0} (old new : List Gave) (errands errands_now : Errands C P) : Type 0 where
  pub behind : InOrder errands → HandsMore old new errands errands_now

-- what the events of a log gave, in order
abbrev pub gifts_of : List Event → List Gift
gifts_of [] = []
gifts_of (next ∷ log) = gifts_by next ++ gifts_of log

-- what stands under the lock is what its log leads to; the log of gifts says what those events
-- gave, and each connection that got a number got a pen with it
pub record TellsGifts (C P : Type 0) (log : List Event) (gave : List Gave) (inside : InsideParts) : Type 0 where
  pub runs : Runs C P log inside
  pub gifts_are : gifts_in gave ≡ gifts_of log
  pub pens : numbers_of pens_by gave ≡ inside.numbers
