use Rattle.std.proofs.Common.{◌≡◌}
use Rattle.ipc_exchange.specs.Service.{delivered_to}
use Rattle.ipc_exchange.specs.Rooms.{StaysReady, service_of}
use Rattle.ipc_exchange.proofs.service.Service.deliver.Given as goal

abbrev pub invariant-loop-number : goal.invariant-loop-number
invariant-loop-number l = record {
  told : service_of l.self ≡ delivered_to l.number (service_of l.fn.self);
  stays : StaysReady l.fn.self l.self;
}
