-- The room that an input needs with the At before it and all that it brings about, beyond what is
-- owed.
use Rattle.std.specs.Prelude.{ℕ, Bool, true, false}
use Rattle.ipc_history.specs.declared.entry.Input.{Input}
use Rattle.ipc_history.specs.declared.entry.Input.TheVariants.{At, Opened, Called, Exreg}
use Rattle.ipc_core.specs.Room.{open_need, call_need, exreg_need}

abbrev pub command_need : Input → ℕ
command_need (Opened thread space) = open_need
command_need (Called n thread call) = call_need call
command_need (Exreg thread target control) = exreg_need
command_need _ = 0

-- the input is of the clock
abbrev pub is_clock : Input → Bool
is_clock (At moment) = true
is_clock _ = false
