-- All connections of a server, in one log.
use Rattle.std.specs.Prelude.{◌≡◌, ◌==◌, ◌++◌, ◌∷◌, [], ℕ, Bool, Contains, List, Option, Some, None, map, true}
use Rattle.std.specs.List.{AllByRecursion, IsDistinct, list_any}
use mathlib.Core.List.{IsPrefix}
use Rattle.ipc_seats.specs.Owning.{done_by, ended_by}
use Rattle.ipc_seats.specs.declared.events.Event.{Event}
use Rattle.ipc_seats.specs.declared.events.Event.TheVariants as event
use Rattle.ipc_lock.specs.InsideParts.{InsideParts}
use Rattle.ipc_lock.specs.Logs.{is_box_of}
use Rattle.ipc_lock.specs.Turns.{Runs}
use Rattle.ipc_base.specs.LogRules.{numbers_of}
use Rattle.ipc_server.specs.Doing.{DoesSome}
use Rattle.ipc_server.specs.declared.served.Service.{Service}
use Rattle.ipc_session.specs.Keeping.{call_of}
use Rattle.ipc_session.specs.Sessions.{MayAskFor}
use Rattle.ipc_session.specs.declared.deed.Deed.{Deed}

-- what had come through the port of a connection before it was served
abbrev pub came_before : List Service → Option (List ℕ)
came_before [] = None
came_before (service ∷ others) = service.before

-- what is noted of a connection whose port had given this: before it was served, once it was read
-- to its end, and then what was sent to it
abbrev pub begun_by : Option (List ℕ) → Service
begun_by before = record { space = 0; number = 0; before = before; came = None; asked = []; sent = None }

abbrev pub read_by : Option (List ℕ) → ℕ → ℕ → Option (List ℕ) → List Deed → Service
read_by before space number came deeds = record { space = space; number = number; before = before; came = came; asked = deeds; sent = None }

abbrev pub with_sent : Option (List ℕ) → Service → Service
with_sent sent service = record service { sent = sent }

-- the number of a connection
abbrev pub number_of : Service → ℕ
number_of service = service.number

-- the log so far as the roll was told of it, and the connections that were served by then
pub record Roster : Type 0 where
  pub log : List Event
  pub all : List Service

-- a connection was served: what came meanwhile asked for what was done for it, and for no more.
-- Each was done by its own end, in this log. Then its box was given back, and what was sent by then
-- is a beginning of the text of all that the log says that it was given
pub record WasServed (C P : Type 0) (log : List Event) (service : Service) : Type 0 where
  pub asks : MayAskFor service.before service.came (map call_of service.asked)
  pub does : DoesSome C P service.space service.asked (Some service.sent)
  pub number : does.left.own.number ≡ service.number
  pub in_log : IsPrefix does.hands.releases.after.log log

-- the same, and of its end this log says nothing else
pub record IsServed (C P : Type 0) (log : List Event) (service : Service) : Type 0 where
  pub was : WasServed C P log service
  pub all : done_by service.number log ≡ was.does.left.own.mine ++ event.Released was.does.left.place service.number ∷ []

-- so far each was served, and they are those of which the roll was told, in that order
pub record AreServed (C P : Type 0) (log : List Event) (services : List Service) : Type 0 where
  pub each : AllByRecursion (WasServed C P log) services
  pub numbers : map number_of services ≡ numbers_of ended_by log

-- all connections of a server were served in one log, which leads from an empty kernel to what then
-- stands under the lock. Each has a number of its own, and each that got a box, as the log says, is
-- among them
pub record ServesAll (C P : Type 0) (log : List Event) (services : List Service) : Type 0 where
  pub inside : InsideParts
  pub runs : Runs C P log inside
  pub each : AllByRecursion (IsServed C P log) services
  pub once : IsDistinct (λ (a b : ℕ). a == b) (map number_of services)
  pub all : (number place : ℕ) → list_any (is_box_of number place) log ≡ true → Contains (map number_of services) number
