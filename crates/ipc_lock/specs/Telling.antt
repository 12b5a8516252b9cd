-- A step under the lock with what it tells: behind it the boxes are looked into of those whom it
-- concerns.
use Rattle.std.specs.Prelude.{◌≡◌, ℕ, List, Option, Some, None}
use Rattle.ipc_connection.specs.Asking.{command_of, version_asked}
use Rattle.ipc_connection.specs.declared.asking.Request.{Request}
use Rattle.ipc_connection.specs.declared.replying.Told.{Told}
use Rattle.ipc_core.specs.KernelParts.{KernelParts}
use Rattle.ipc_core.specs.declared.command.Answer.{Answer}
use Rattle.ipc_core.specs.declared.command.Command.{Command}
use Rattle.ipc_core.specs.declared.command.Command.TheVariants.{Broke}
use Rattle.ipc_frame.specs.declared.version.WireVersion.TheVariants.{One}
use Rattle.ipc_history.specs.Legal.{Legal}
use Rattle.ipc_seats.specs.Acting.{ActsOn, AsksOn}
use Rattle.ipc_seats.specs.Boxes.{BoxParts, OnlyTakes}
use Rattle.ipc_seats.specs.Noting.{NotesOn}
use Rattle.ipc_seats.specs.Places.{LoadsRow, OnlyLoads, new_seat, owned_by, places_told, told_in}
use Rattle.ipc_seats.specs.declared.errands.Errands.{Errands}
use Rattle.ipc_seats.specs.declared.seated.seats.CallSeat.{CallSeat}
use Rattle.ipc_seats.specs.declared.upkeep.Upkeep.{Upkeep}

-- a step was made, and the boxes of the threads whose calls it finished were looked into
pub record ActsAndTells {C P : Type 0} (upkeep after : Upkeep) (old new : KernelParts) (now : ℕ) (seat : Option (CallSeat C)) (command : Command)
    (answer : Answer) (owners : List (Option ℕ)) (boxes boxes_now : List BoxParts) (errands errands_now : Errands C P) : Type 0 where
  pub stepped : KernelParts
  pub finished : List ℕ
  pub room : ℕ
  pub acts : ActsOn upkeep after old stepped now seat command answer
  pub legal : Legal stepped.history
  pub notes : NotesOn upkeep after old stepped now command finished room
  pub tells : LoadsRow (places_told None owners finished) stepped new boxes boxes_now errands errands_now
  pub only : OnlyTakes stepped new

-- a reader's step was made, and told in its box; that box was looked into first, and then those of
-- the threads whose calls it finished
pub record AsksAndTells {C P : Type 0} (upkeep after : Upkeep) (old new : KernelParts) (now : ℕ) (seat : Option (CallSeat C)) (asked : Request) (space : ℕ)
    (said : Told) (owners : List (Option ℕ)) (place : ℕ) (boxes boxes_now : List BoxParts) (errands errands_now : Errands C P) : Type 0 where
  pub stepped : KernelParts
  pub finished : List ℕ
  pub room : ℕ
  pub asks : AsksOn upkeep after old stepped now seat (version_asked asked One) (command_of asked space) said
  pub legal : Legal stepped.history
  pub notes : NotesOn upkeep after old stepped now (command_of asked space) finished room
  pub tells : LoadsRow (places_told (Some place) (owned_by said (new_seat said) owners place) finished) stepped new
      (told_in said (new_seat said) boxes place) boxes_now errands errands_now
  pub stay : OnlyLoads (told_in said (new_seat said) boxes place) boxes_now
  pub only : OnlyTakes stepped new

-- a thread was broken, for which no seat is needed, and the boxes of those whom it concerned were
-- looked into
pub record BrokeFor (C : Type 0) {P : Type 0} (upkeep after : Upkeep) (old new : KernelParts) (now thread : ℕ) (owners : List (Option ℕ))
    (boxes boxes_now : List BoxParts) (errands errands_now : Errands C P) : Type 0 where
  pub answer : Answer
  pub acts : ActsAndTells {C = C} upkeep after old new now None (Broke thread) answer owners boxes boxes_now errands errands_now

-- the same of the thread that is told in a box, if there is one; else no step was made
abbrev pub BreaksFor : (C : Type 0) {P : Type 0} → Upkeep → Upkeep → KernelParts → KernelParts → ℕ → Option ℕ → List (Option ℕ)
    → List BoxParts → List BoxParts → Errands C P → Errands C P → Type 0
BreaksFor C upkeep after old new now None owners boxes boxes_now errands errands_now =
    (new ≡ old) × (after ≡ upkeep) × (boxes_now ≡ boxes) × (errands_now ≡ errands)
BreaksFor C upkeep after old new now (Some thread) owners boxes boxes_now errands errands_now =
    BrokeFor C upkeep after old new now thread owners boxes boxes_now errands errands_now
