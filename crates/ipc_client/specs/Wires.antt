-- What went over the ports of a client, from where it began.
use Rattle.std.specs.Prelude.{◌≡◌, ℕ, ◌≤◌, ◌<◌, Bool, true, List, [], ◌∷◌, ◌++◌, Option, length, take, ◌⊎◌}
use Rattle.std.specs.Io.KnownBytes.{Appends}
use Rattle.ipc_base.specs.Ports.{Gives, Input}
use Rattle.ipc_frame.specs.declared.frame.Frame.{Frame}
use Rattle.ipc_frame.specs.Frames.{spelling}
use Rattle.ipc_client.specs.ClientParts.{ClientParts, start_input}
use Rattle.ipc_client.specs.declared.start.Start.{Start}

-- the bytes of frames, one after the other
unfoldable pub text_of : List Frame → List ℕ
text_of [] = []
text_of (next ∷ rest) = spelling next ++ text_of rest

-- nothing went out but these frames, in order, each once and whole, and nothing came but their
-- answers, in order, each once
pub record IsAnswered (start : Start) (input : Input) (written : Option (List ℕ)) (sent answers : List Frame) : Type 0 where
  pub out : Appends start.written written (text_of sent)
  pub came : Gives (start_input start) input (text_of answers)
  pub each : length answers ≡ length sent

-- the same, but for the last frame: of it a front went out, or all, and what then came for it is no
-- answer
pub record LacksLast (start : Start) (input : Input) (written : Option (List ℕ)) (sent answers : List Frame) : Type 0 where
  pub before : List Frame
  pub last : Frame
  pub is : sent ≡ before ++ last ∷ []
  pub count : ℕ
  pub within : count ≤ length (spelling last)
  pub out : Appends start.written written (text_of before ++ take count (spelling last))
  pub rest : List ℕ
  pub came : Gives (start_input start) input (text_of answers ++ rest)
  pub behind : count < length (spelling last) → rest ≡ []
  pub each : length answers ≡ length before

-- each frame was answered, or the last one was not, and the client is closed
abbrev pub IsCarried : Start → Input → Option (List ℕ) → List Frame → List Frame → Bool → Type 0
IsCarried start input written sent answers closed =
    IsAnswered start input written sent answers ⊎ ((closed ≡ true) × LacksLast start input written sent answers)

-- of a client
abbrev pub HasCarried : ClientParts → Type 0
HasCarried parts = IsCarried parts.start parts.input parts.written parts.sent parts.answers parts.is_closed
