-- A step, and what it tells.
use Rattle.std.proofs.Common.{◌≡◌, ℕ, List, Option, Some, None, subst, sym}
use Rattle.ipc_connection.specs.Asking.{command_of, version_asked}
use Rattle.ipc_connection.specs.declared.asking.Request.{Request}
use Rattle.ipc_connection.specs.declared.replying.Told.{Told}
use Rattle.ipc_core.specs.KernelParts.{KernelParts}
use Rattle.ipc_core.specs.declared.command.Answer.{Answer}
use Rattle.ipc_core.specs.declared.command.Command.{Command}
use Rattle.ipc_core.specs.declared.command.Command.TheVariants.{Broke}
use Rattle.ipc_frame.specs.declared.version.WireVersion.TheVariants.{One}
use Rattle.ipc_history.specs.Legal.{Legal}
use Rattle.ipc_seats.specs.Acting.{ActsOn, AsksOn}
use Rattle.ipc_seats.specs.Boxes.{BoxParts, OnlyTakes}
use Rattle.ipc_seats.specs.Noting.{NotesOn}
use Rattle.ipc_seats.specs.Places.{Ends, LoadsRow, OnlyLoads, new_seat, owned_by, places_told, told_in}
use Rattle.ipc_seats.specs.declared.errands.Errands.{Errands}
use Rattle.ipc_seats.specs.declared.seated.seats.CallSeat.{CallSeat}
use Rattle.ipc_seats.specs.declared.upkeep.Upkeep.{Upkeep}
use Rattle.ipc_seats.proofs.Moves.{ends_so}
use Rattle.ipc_lock.specs.Telling.{ActsAndTells, AsksAndTells}

-- first the step, and then what it tells
pub acts_and_tells : {C P : Type 0} (upkeep between after : Upkeep) (old stepped new : KernelParts) (now : ℕ) (seat : Option (CallSeat C)) (command : Command) (answer : Answer)
    (owners owners_now : List (Option ℕ)) (finished : List ℕ) (room : ℕ) (boxes boxes_between boxes_now : List BoxParts) (errands errands_now : Errands C P)
    → ActsOn upkeep between old stepped now seat command answer → Legal stepped.history → NotesOn upkeep between old stepped now command finished room
    → after ≡ between → owners_now ≡ owners → boxes_between ≡ boxes → OnlyTakes stepped new
    → LoadsRow (places_told None owners_now finished) stepped new boxes_between boxes_now errands errands_now
    → ActsAndTells upkeep after old new now seat command answer owners boxes boxes_now errands errands_now
acts_and_tells {C} {P} upkeep between after old stepped new now seat command answer owners owners_now finished room boxes boxes_between boxes_now errands errands_now acts legal notes same owned told only tells = record {
  stepped = stepped;
  finished = finished;
  room = room;
  acts = subst (λ (u : Upkeep). ActsOn upkeep u old stepped now seat command answer) (sym same) acts;
  legal = legal;
  notes = subst (λ (u : Upkeep). NotesOn upkeep u old stepped now command finished room) (sym same) notes;
  tells = subst (λ (bs : List BoxParts). LoadsRow (places_told None owners finished) stepped new bs boxes_now errands errands_now) told
      (subst (λ (os : List (Option ℕ)). LoadsRow (places_told None os finished) stepped new boxes_between boxes_now errands errands_now) owned tells);
  only = only;
}

-- the same of a reader's step
pub asks_and_tells : {C P : Type 0} (upkeep between after : Upkeep) (old stepped new : KernelParts) (now : ℕ) (seat : Option (CallSeat C)) (asked : Request) (space : ℕ) (said : Told)
    (owners owners_now : List (Option ℕ)) (place : ℕ) (finished : List ℕ) (room : ℕ) (boxes boxes_between boxes_now : List BoxParts) (errands errands_now : Errands C P)
    → AsksOn upkeep between old stepped now seat (version_asked asked One) (command_of asked space) said → Legal stepped.history
    → NotesOn upkeep between old stepped now (command_of asked space) finished room
    → after ≡ between → owners_now ≡ owned_by said (new_seat said) owners place → boxes_between ≡ told_in said (new_seat said) boxes place → OnlyTakes stepped new
    → OnlyLoads boxes_between boxes_now → LoadsRow (places_told (Some place) owners_now finished) stepped new boxes_between boxes_now errands errands_now
    → AsksAndTells upkeep after old new now seat asked space said owners place boxes boxes_now errands errands_now
asks_and_tells {C} {P} upkeep between after old stepped new now seat asked space said owners owners_now place finished room boxes boxes_between boxes_now errands errands_now asks legal notes same owned told only stay tells = record {
  stepped = stepped;
  finished = finished;
  room = room;
  asks = subst (λ (u : Upkeep). AsksOn upkeep u old stepped now seat (version_asked asked One) (command_of asked space) said) (sym same) asks;
  legal = legal;
  notes = subst (λ (u : Upkeep). NotesOn upkeep u old stepped now (command_of asked space) finished room) (sym same) notes;
  tells = subst (λ (bs : List BoxParts). LoadsRow (places_told (Some place) (owned_by said (new_seat said) owners place) finished) stepped new bs boxes_now errands errands_now) told
      (subst (λ (os : List (Option ℕ)). LoadsRow (places_told (Some place) os finished) stepped new boxes_between boxes_now errands errands_now) owned tells);
  stay = subst (λ (bs : List BoxParts). OnlyLoads bs boxes_now) told stay;
  only = only;
}

-- a break, and what it tells, ends a thread
pub ends_told : {C P : Type 0} (upkeep after : Upkeep) (old new : KernelParts) (now : ℕ) (seat : Option (CallSeat C)) (thread : ℕ) (said : Answer)
    (owners : List (Option ℕ)) (boxes boxes_now : List BoxParts) (errands errands_now : Errands C P)
    → ActsAndTells upkeep after old new now seat (Broke thread) said owners boxes boxes_now errands errands_now → Ends upkeep after old new now thread
ends_told upkeep after old new now seat thread said owners boxes boxes_now errands errands_now h = ends_so seat upkeep after old h.stepped new now thread said h.acts h.only
