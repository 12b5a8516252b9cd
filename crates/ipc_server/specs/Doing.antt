-- What was done for a connection: each call that is noted was made of the shared kernel, at the end
-- of that connection, and the log has no other event of that end.
use Rattle.std.specs.Prelude.{◌≡◌, ◌⊎◌, ℕ, List, [], ◌∷◌, Option, Some, None, map}
use Rattle.ipc_connection.specs.KernelCalls.{KernelCall, Posts, posted}
use Rattle.ipc_connection.specs.declared.asking.Request.{Request}
use Rattle.ipc_connection.specs.declared.replying.Told.{Told}
use Rattle.ipc_frame.specs.declared.frame.Frame.{Frame}
use Rattle.ipc_frame.specs.declared.frame.Frame.TheVariants as frame
use Rattle.ipc_seats.specs.Acting.{Asked}
use Rattle.ipc_seats.specs.declared.events.Event.{Event}
use Rattle.ipc_lock.specs.Above.{AsksOrRefuses, ConnectsSome, HandsOut, HangsUpSome, PostsOrDrops}
use Rattle.ipc_lock.specs.declared.ends.PostEnd.{PostEnd}
use Rattle.ipc_base.specs.LogViews.{Known}
use Rattle.ipc_session.specs.Keeping.{call_of}
use Rattle.ipc_session.specs.Sessions.{MayAskFor}
use Rattle.ipc_session.specs.declared.deed.Deed.{Deed}
use Rattle.ipc_session.specs.declared.deed.Deed.TheVariants as deed

-- an end is at the same box, with the same number and space
pub record IsAtHome {C : Type 0} (end end_now : PostEnd C) : Type 0 where
  pub place : end_now.place ≡ end.place
  pub number : end_now.own.number ≡ end.own.number
  pub space : end_now.space ≡ end.space

-- a request was asked at a moment by an end: its step was made by the seat of that end, from its
-- space, and was told so in its box; or the box was shut, and it was refused. The end that is left
-- is at the same box, with the seat that this leaves, and knows of one event more, or of none
pub record AsksBy {C : Type 0} (P : Type 0) (end : PostEnd C) (request : Request) (said : Told) (end_now : PostEnd C) : Type 0 where
  pub now : ℕ
  pub asks : AsksOrRefuses P now end.place end.seat request end.space said end.own end_now.own
  pub leaves : Asked said request end.seat end_now.seat
  pub home : IsAtHome end end_now

-- the frame of something that is told was posted in the box of an end; or the box was shut. What
-- the end that is left knows is one event more, or none
pub record PostsBy {C : Type 0} (P : Type 0) (end : PostEnd C) (frame : Frame) (end_now : PostEnd C) : Type 0 where
  pub said : Told
  pub frame_is : posted said ≡ Some frame
  pub posts : PostsOrDrops C P end.place said end.own end_now.own
  pub seat : end_now.seat ≡ end.seat
  pub home : IsAtHome end end_now

-- the same where it has a frame; else nothing was done
abbrev pub PostsWith : {C : Type 0} → Type 0 → PostEnd C → Option Frame → PostEnd C → Type 0
PostsWith P end None end_now = end_now ≡ end
PostsWith P end (Some frame) end_now = PostsBy P end frame end_now

abbrev pub PostsIfLeft : {C : Type 0} → Type 0 → PostEnd C → Told → PostEnd C → Type 0
PostsIfLeft P end said end_now = PostsWith P end (posted said) end_now

-- the box of an end was shut at a moment, and its thread, if there is one, was broken. The end that
-- is left knows of that event more
pub record BreaksBy {C : Type 0} (P : Type 0) (end end_now : PostEnd C) : Type 0 where
  pub now : ℕ
  pub ends : HangsUpSome C P now end.place end.own end_now.own
  pub seat : end_now.seat ≡ end.seat
  pub home : IsAtHome end end_now

-- each of these was done by an end, in this order: a request by the seat that the one before it
-- left, and the log has no event of that end between them. That is the end which is left
unfoldable pub Does : {C : Type 0} → Type 0 → PostEnd C → List Deed → PostEnd C → Type 0
Does P end [] end_now = end_now ≡ end
Does {C} P end (deed.Asked request said ∷ deeds) end_now = (next : PostEnd C) × AsksBy P end request said next × Does P next deeds end_now
Does {C} P end (deed.Posted frame ∷ deeds) end_now = (next : PostEnd C) × PostsBy P end frame next × Does P next deeds end_now
Does {C} P end (deed.Broke ∷ deeds) end_now = (next : PostEnd C) × BreaksBy P end next × Does P next deeds end_now

-- the end of a connection that got its box and its number, and did nothing so far
pub record IsNew {C : Type 0} (P : Type 0) (end : PostEnd C) : Type 0 where
  pub seat : end.seat ≡ None
  pub connects : ConnectsSome C P end.place end.own

-- the end of a connection when it began: it had no seat, and knew this of the log
abbrev pub begun : {C : Type 0} → Known Event → PostEnd C → PostEnd C
begun first end = record end { seat = None; own = first }

-- all that this end ever did are these deeds: it began when its connection got its box and its
-- number, did them in this order, and the log says nothing else of it
pub record DidAll {C : Type 0} (P : Type 0) (deeds : List Deed) (end : PostEnd C) : Type 0 where
  pub first : Known Event
  pub connects : ConnectsSome C P end.place first
  pub does : Does P (begun first end) deeds end

-- what came meanwhile asked for what was done, or nothing came and nothing was done; each was done
-- by this end
pub record ReadsBy {C : Type 0} (P : Type 0) (came came_now : Option (List ℕ)) (end end_now : PostEnd C) (deeds : List Deed) : Type 0 where
  pub asks : MayAskFor came came_now (map call_of deeds)
  pub did : DidAll P deeds end_now
  pub home : IsAtHome end end_now

-- a connection to a space got a number that no other had, and a box that was as new. All of these
-- were done by its end, which had no seat at first; then the box was given back, and the log had no
-- other event of that end. What had gone out by its port then, where that is told, begins the text
-- of all that the log says that the connection was given
pub record DoesSome (C P : Type 0) (space : ℕ) (deeds : List Deed) (sent : Option (Option (List ℕ))) : Type 0 where
  pub end : PostEnd C
  pub left : PostEnd C
  pub connects : ConnectsSome C P end.place end.own
  pub space_is : end.space ≡ space
  pub begins : end.seat ≡ None
  pub does : Does P end deeds left
  pub out : Option (List ℕ)
  pub sent_is : sent ≡ Some out
  pub roll : List Event
  pub roll_now : List Event
  pub hands : HandsOut C P left.place left.own roll roll_now out

-- a connection to a space is served: what came meanwhile asked for these deeds, all of them and no
-- others, and each was done for it, and what was sent meanwhile is what it was given; or it got no
-- box, and nothing was done
pub record ServesOne (C P : Type 0) (space : ℕ) (came came_now : Option (List ℕ)) (deeds : List Deed) (sent : Option (Option (List ℕ))) : Type 0 where
  pub asks : MayAskFor came came_now (map call_of deeds)
  pub does : DoesSome C P space deeds sent ⊎ (deeds ≡ [])

-- what the kernel port of an end tells: first the box, the number and the space of that end, as two
-- frames, and then its calls. What a port tells only grows, so nobody can put that of another
-- connection in its place
abbrev pub told_at : {C : Type 0} → PostEnd C → List Deed → List KernelCall
told_at end deeds = Posts (frame.Fault end.place end.own.number) ∷ Posts (frame.Refused end.space) ∷ map call_of deeds
