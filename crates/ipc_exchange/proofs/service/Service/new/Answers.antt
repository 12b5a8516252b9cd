use Rattle.std.proofs.Common.{arith, refl}
use Rattle.ipc_exchange.specs.Rooms.{roomless}
use Rattle.ipc_exchange.proofs.ReadyLemmas.{ended}
use Rattle.ipc_exchange.proofs.service.Service.new.Goals as goal

pub returns-clause-ready : goal.returns-clause-ready
returns-clause-ready c = rw c.new-2.ensures (record {
  sound = c.history.ensures.sound;
  placed = λ place thread e. absurd cc;
  table = omega (arith, c.in_ok-table.ensures.len, c.in_ok-table.table.ok);
  room = λ place. ended c.in_ok-kernel.kernel roomless refl;
})
