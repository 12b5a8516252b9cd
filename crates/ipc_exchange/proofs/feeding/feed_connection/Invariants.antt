use Rattle.std.proofs.Common.{◌+◌, ℕ, List, length}
use Rattle.ipc_connection.specs.Taking.{Decoding, Holds}
use Rattle.ipc_exchange.specs.Service.{ServiceParts}
use Rattle.ipc_exchange.specs.Rooms.{StaysReady, service_of}
use Rattle.ipc_exchange.specs.Feeding.{FeedsConnection}
use Rattle.ipc_exchange.proofs.feeding.feed_connection.Given as goal

-- what is left to be served completes all
abbrev pub invariant-loop-used : goal.invariant-loop-used
invariant-loop-used l = record {
  ready : StaysReady l.fn.service l.service;
  holds : (bytes : List ℕ) × Holds l.decoder bytes;
  left : (bytes : List ℕ) → Holds l.fn.decoder bytes → (left : List ℕ) × Holds l.decoder left × ((new : ServiceParts) (decoder : Decoding) → FeedsConnection (service_of l.service) l.place left l.rest new decoder → FeedsConnection (service_of l.fn.service) l.place bytes l.piece new decoder);
}

abbrev pub decreases-loop-used : goal.decreases-loop-used
decreases-loop-used l = length l.rest + (length l.decoder.kept + l.decoder.lost)
