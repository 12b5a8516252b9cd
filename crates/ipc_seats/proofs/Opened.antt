-- What is left in the box of a thread that was opened.
use Rattle.std.proofs.Common.{◌≡◌, ℕ, List, Option, Some}
use Rattle.std.specs.Prelude.{slice_set}
use Rattle.ipc_words.specs.ThreadId.{number_of}
use Rattle.ipc_frame.specs.declared.version.WireVersion.{WireVersion}
use Rattle.ipc_connection.specs.declared.replying.Told.TheVariants as told
use Rattle.ipc_seats.specs.Boxes.{BoxParts, changed_at, take_parts, welcomed}
use Rattle.ipc_seats.specs.Places.{new_seat, owned_by, told_in}
use Rattle.ipc_seats.specs.declared.seated.seats.TakeSeat.{TakeSeat}

pub told_opened : {T : Type 0} (version : WireVersion) (thread : ℕ) (takes : TakeSeat T) (boxes : List BoxParts) (place : ℕ) → takes.thread ≡ thread → takes.taken ≡ 0
    → changed_at (welcomed (take_parts takes) version) boxes place ≡ told_in (told.Opened thread version) (new_seat (told.Opened thread version)) boxes place
told_opened version thread takes boxes place same none = cc

pub owned_opened : {T : Type 0} (version : WireVersion) (thread : ℕ) (takes : TakeSeat T) (owners : List (Option ℕ)) (place : ℕ) → takes.thread ≡ thread
    → slice_set owners (number_of takes.thread) (Some place) ≡ owned_by (told.Opened thread version) (new_seat (told.Opened thread version)) owners place
owned_opened version thread takes owners place same = cc
