-- What reading a frame takes from a port.
use Rattle.std.specs.Prelude.{◌≡◌, ℕ, ◌≤◌, ◌<◌, List, [], ◌++◌, Option, length, ⊤}
use Rattle.std.specs.Io.KnownBytes.{IsAtEnd}
use Rattle.ipc_base.specs.Ports.{Gives, Input}
use Rattle.ipc_frame.specs.declared.fault.FrameFault.{FrameFault}
use Rattle.ipc_frame.specs.declared.fault.FrameFault.TheVariants as fault
use Rattle.ipc_frame.specs.declared.frame.Frame.{Frame}
use Rattle.ipc_frame.specs.declared.kind.Side.{Side}
use Rattle.ipc_frame.specs.Frames.{kind_of, side_of, spelling, IsFrame}
use Rattle.ipc_frame.specs.Reading.{Reading, Short, Bad, reading}

-- a frame that a side is sent came, and nothing more
pub record TakesFrame (side : Side) (old new : Input) (frame : Frame) : Type 0 where
  pub is : IsFrame frame
  pub side_is : side_of (kind_of frame) ≡ side
  pub taken : Gives old new (spelling frame)

-- no whole frame is there, and no fault shows
abbrev pub IsShort : Reading → Type 0
IsShort shown = (wanted : ℕ) × (shown ≡ Short wanted)

-- what the bytes taken show where there is no frame: F9 only at the end of the input, another fault
-- only where they show it
abbrev pub ShowsFault : FrameFault → Reading → Option (List ℕ) → Type 0
ShowsFault fault.Unfinished shown new = IsShort shown × IsAtEnd new
ShowsFault fault.Device shown new = IsShort shown
ShowsFault fault.Interrupted shown new = IsShort shown
ShowsFault fault.NoMemory shown new = ⊤
ShowsFault other shown new = shown ≡ Bad other

abbrev pub TakesNoFrame : Side → Input → Input → FrameFault → Type 0
TakesNoFrame side old new fault = (bytes : List ℕ) × Gives old new bytes × ShowsFault fault (reading side bytes) new.left

-- one read: at most so many bytes were taken, and at least one, and stand behind those that are
-- held
pub record TakesPart (old new : Input) (before after : List ℕ) (wanted : ℕ) : Type 0 where
  pub part : List ℕ
  pub some : 0 < length part
  pub few : length part ≤ wanted
  pub taken : Gives old new part
  pub held : after ≡ before ++ part

-- or none: the input is at its end, the device failed, or there is no memory for those that were
-- taken
abbrev pub TakesNoPart : Input → Input → FrameFault → Type 0
TakesNoPart old new fault.Unfinished = Gives old new [] × IsAtEnd new.left
TakesNoPart old new fault.Device = Gives old new []
TakesNoPart old new fault.Interrupted = Gives old new []
TakesNoPart old new fault.NoMemory = (part : List ℕ) × Gives old new part
TakesNoPart old new other = ⊥
