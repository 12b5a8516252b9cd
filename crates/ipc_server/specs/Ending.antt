-- How the server ended.
use Rattle.std.specs.Prelude.{⊤}
use Rattle.ipc_host.specs.declared.socket.SocketPort.{SocketPort}
use Rattle.ipc_server.specs.Services.{ServesAll}
use Rattle.ipc_server.specs.declared.ending.Ending.{Ending}
use Rattle.ipc_server.specs.declared.ending.Ending.TheVariants as ending

-- where it ended well it served all connections that it had, in one log
abbrev pub EndsServed : {C : Type 0} → Ending C → Type 0
EndsServed {C} (ending.Closed served) = ServesAll C SocketPort served.log served.all
EndsServed {C} (ending.Untraced served) = ServesAll C SocketPort served.log served.all
EndsServed (ending.Failed exit) = ⊤
