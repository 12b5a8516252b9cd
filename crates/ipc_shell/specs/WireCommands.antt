-- Our choice (docs/FORMATS.md): the commands of a wire script, as the events of an exchange that
-- they spell.
use Rattle.std.specs.Prelude.{◌≡◌, ℕ, ◌+◌, ◌<◌, ◌≤◌, ◌^◌, List, ◌∷◌, ◌++◌, codes, length, Ok}
use Rattle.std.specs.Fmt.{decimal}
use Rattle.hex.specs.Hex.{decode_of}
use Rattle.ipc_words.specs.Limits.{max_space}
use Rattle.ipc_exchange.specs.Events.{Event, Connect, Piece, Finish, Reading, Copy}
use Rattle.ipc_shell.specs.declared.wire.commands.WireCommand.{WireCommand}
use Rattle.ipc_shell.specs.declared.wire.commands.WireCommand.TheVariants as command

-- a piece of bytes comes on the connection in a place: one byte at least, each as two hexadecimal
-- digits of either case
pub record SpellsPiece (place : ℕ) (bytes line : List ℕ) : Type 0 where
  pub fits : place + 1 < 2 ^ 64
  pub digits : List ℕ
  pub some : 0 < length digits
  pub bytes_are : decode_of digits ≡ Ok bytes
  pub line_is : line ≡ codes "feed " ++ (decimal (place + 1) ++ 32 ∷ digits)

-- the line of an event; connections are numbered from 1 on
abbrev pub IsSpelled : Event → List ℕ → Type 0
IsSpelled (Connect space) line =
    (1 ≤ space) × (space ≤ max_space) × (line ≡ codes "connect " ++ decimal space)
IsSpelled (Piece place bytes) line = SpellsPiece place bytes line
IsSpelled (Finish place) line =
    (place + 1 < 2 ^ 64) × (line ≡ codes "end " ++ decimal (place + 1))
IsSpelled (Reading moment) line = (moment < 2 ^ 64) × (line ≡ codes "at " ++ decimal moment)
IsSpelled Copy line = line ≡ codes "advance"

-- the event of a command
abbrev pub event_of : WireCommand → Event
event_of (command.Connect space) = Connect space
event_of (command.Feed place bytes) = Piece place bytes.items
event_of (command.End place) = Finish place
event_of (command.At moment) = Reading moment
event_of command.Advance = Copy
