-- The bytes of a payload, which is lent or given.
use Rattle.std.specs.Prelude.{ℕ, List}
use Rattle.ipc_connection.specs.declared.payload.Payload.{Payload}
use Rattle.ipc_connection.specs.declared.payload.Payload.TheVariants.{Lent, Given}

abbrev pub payload_of : Payload → List ℕ
payload_of (Lent bytes) = bytes.now
payload_of (Given bytes) = bytes.items
