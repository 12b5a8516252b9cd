use Rattle.std.proofs.Common.{refl}
use Rattle.ipc_waits.proofs.read.ReadSlots.waiting_output.Goals as goal

pub returns-in-Some-least : goal.returns-in-Some-least
returns-in-Some-least c = rw (← c.slots-slots.ensures, ← c.least.ensures, c.in_default.is, ← c.least-2.ensures, c.in-Some-least.is) refl
