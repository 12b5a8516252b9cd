-- What is laid out, and what is left.
use Rattle.std.proofs.Common.{◌-◌, length}
use Rattle.ipc_client.proofs.BuildLemmas.{IsLaidOut}
use Rattle.ipc_client.proofs.building.lay_out.Given as goal

abbrev pub invariant-strings : goal.invariant-strings
invariant-strings l = IsLaidOut l.words l.strings l.place l.registers.items l.payload.items

abbrev pub decreases-strings : goal.decreases-strings
decreases-strings l = length l.strings - l.place
