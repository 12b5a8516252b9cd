use Rattle.ipc_laws.proofs.Clock.{at_room}
use Rattle.ipc_laws.proofs.InputRoom.{input_room}
use Rattle.ipc_laws.proofs.Pledge.{command_fits, pledge_covers}
use Rattle.ipc_laws.proofs.RoomFalls.{room_holds}
use Rattle.ipc_laws.proofs.laws.room_is_enough.Goals as goal

pub returns-clause-outputs : goal.returns-clause-outputs
returns-clause-outputs c = room_holds

pub returns-clause-input : goal.returns-clause-input
returns-clause-input c = input_room

pub returns-clause-at : goal.returns-clause-at
returns-clause-at c = at_room

pub returns-clause-pledged : goal.returns-clause-pledged
returns-clause-pledged c = pledge_covers

pub returns-clause-command : goal.returns-clause-command
returns-clause-command c = command_fits
