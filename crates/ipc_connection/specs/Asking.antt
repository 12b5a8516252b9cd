-- What is done for what a connection says, and what it asks of the kernel. Our choice
-- (docs/PROFILE.md): the rules of a connection.
use Rattle.std.specs.Prelude.{ℕ, Result, Ok, Err}
use Rattle.ipc_frame.specs.declared.fault.FrameFault.{FrameFault}
use Rattle.ipc_frame.specs.declared.version.WireVersion.{WireVersion}
use Rattle.ipc_core.specs.declared.command.Command.{Command}
use Rattle.ipc_core.specs.declared.command.Command.TheVariants as command
use Rattle.ipc_connection.specs.Faults.{fault_number, of_frame, of_session, out_of_place}
use Rattle.ipc_connection.specs.declared.asking.Reaction.{Reaction}
use Rattle.ipc_connection.specs.declared.asking.Reaction.TheVariants.{Ask, Leave, Refuse, Nothing}
use Rattle.ipc_connection.specs.declared.asking.Request.{Request}
use Rattle.ipc_connection.specs.declared.asking.Request.TheVariants.{Open, Enter, Exreg}
use Rattle.ipc_connection.specs.declared.stage.Stage.{Stage}
use Rattle.ipc_connection.specs.declared.stage.Stage.TheVariants.{Greeting, Serving, Finished}
use Rattle.ipc_connection.specs.declared.heard.Heard.{Heard}
use Rattle.ipc_connection.specs.declared.heard.Heard.TheVariants as heard

-- a HELLO opens a thread, once; a call and an ExchangeRegisters want one; BYE ends. The faults of a
-- frame and of its items come before all else, so a frame out of place is one without them
unfoldable pub asks : Stage → Result Heard FrameFault → Reaction
asks Greeting (Err fault) = Refuse of_frame (fault_number fault)
asks Greeting (Ok (heard.Hello number version)) = Ask (Open number version)
asks Greeting (Ok (heard.Call call)) = Refuse of_session out_of_place
asks Greeting (Ok (heard.Exreg target control)) = Refuse of_session out_of_place
asks Greeting (Ok heard.Bye) = Leave
asks (Serving thread) (Err fault) = Refuse of_frame (fault_number fault)
asks (Serving thread) (Ok (heard.Hello number version)) = Refuse of_session out_of_place
asks (Serving thread) (Ok (heard.Call call)) = Ask (Enter thread call)
asks (Serving thread) (Ok (heard.Exreg target control)) = Ask (Exreg thread target control)
asks (Serving thread) (Ok heard.Bye) = Leave
asks Finished heard = Nothing

-- the version in which a connection is answered that makes a request: a HELLO names it
abbrev pub version_asked : Request → WireVersion → WireVersion
version_asked (Open number named) version = named
version_asked (Enter thread call) version = version
version_asked (Exreg thread target control) version = version

-- the command of the kernel that a request is, of a connection from a space
abbrev pub command_of : Request → ℕ → Command
command_of (Open number version) space = command.Open number space
command_of (Enter thread call) space = command.Enter thread call
command_of (Exreg thread target control) space = command.Exreg thread target control
