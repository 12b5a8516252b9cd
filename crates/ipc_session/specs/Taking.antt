-- What a writer is given, and the text of it.
use Rattle.std.specs.Prelude.{◌≡◌, ℕ, List, [], ◌∷◌, ◌++◌, Option, Some, None, ⊤, Bool, true}
use Rattle.std.specs.Prelude.{false, IsTrue, length, map, take}
use Rattle.std.specs.Io.KnownBytes.{Appends}
use Rattle.ipc_frame.specs.Frames.{spelling}
use Rattle.ipc_frame.specs.Replies.{ipcr_of}
use Rattle.ipc_frame.specs.declared.frame.Frame.{Frame}
use Rattle.ipc_session.specs.declared.ending.WriteEnding.{WriteEnding}
use Rattle.ipc_session.specs.declared.ending.WriteEnding.TheVariants as ending
use Rattle.ipc_session.specs.declared.next.Next.{Next}
use Rattle.ipc_session.specs.declared.next.Next.TheVariants as next

-- a call of an answer port: it gave a frame, an outcome's as IPCR, or it was told that the thread
-- ends
pub data TakeCall : Type 0 where
  Gave : Frame → TakeCall
  Breaks : TakeCall

-- an answer port that tells its calls at the end told them before, and had these more, and no
-- others
abbrev pub TellsTaken : Option (List TakeCall) → Option (List TakeCall) → List TakeCall → Type 0
TellsTaken old None calls = ⊤
TellsTaken None (Some ys) calls = ⊥
TellsTaken (Some xs) (Some ys) calls = ys ≡ xs ++ calls

-- the frame of what is given
abbrev pub frames_of : Next → List Frame
frames_of (next.Frame frame) = frame ∷ []
frames_of (next.Outcome version outcome) = ipcr_of version outcome ∷ []
frames_of next.Gone = []

abbrev pub given_by : Next → List TakeCall
given_by given = map Gave (frames_of given)

-- the encodings of frames, one after the other
unfoldable pub text_of : List Frame → List ℕ
text_of [] = []
text_of (frame ∷ frames) = spelling frame ++ text_of frames

-- the bytes of what is given; none where nothing more comes
abbrev pub Encodes : Next → Option (List ℕ) → Type 0
Encodes next.Gone None = ⊤
Encodes next.Gone (Some bytes) = ⊥
Encodes given None = ⊥
Encodes given (Some bytes) = text_of (frames_of given) ≡ bytes

-- the answer port is told of a fault of the device, and of nothing else
abbrev pub broken_by : Option WriteEnding → List TakeCall
broken_by (Some ending.Device) = Breaks ∷ []
broken_by _ = []

-- all that was given went out whole, but for a fault of the device
abbrev pub is_whole_at : Option WriteEnding → Bool
is_whole_at (Some ending.Device) = false
is_whole_at _ = true

-- an answer port gave frames, and then was told something more; of their text so many bytes went
-- out, in order, and all where it is whole
pub record Wrote (old new : Option (List TakeCall)) (before after : Option (List ℕ)) (last : List TakeCall)
    (is_whole : Bool) : Type 0 where
  pub frames : List Frame
  pub tells : TellsTaken old new (map Gave frames ++ last)
  pub count : ℕ
  pub appends : Appends before after (take count (text_of frames))
  pub whole : IsTrue is_whole → count ≡ length (text_of frames)
