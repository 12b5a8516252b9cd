-- What went out on connections, and what waits.
use Rattle.std.specs.Prelude.{◌≡◌, ℕ, zero, suc, ◌≤◌, List, [], ◌∷◌, ◌++◌, length}
use Rattle.ipc_exchange.specs.Service.{ConnectionParts, connection_at, without_bytes}
use Rattle.ipc_exchange.specs.Serving.{Asked, Memory}
use Rattle.ipc_exchange.specs.Events.{Event, ExchangeParts, Happens}

-- so many bytes of the connection in a place go out
abbrev pub put_out : ℕ → ℕ → ExchangeParts → ExchangeParts
put_out place count old = record { service = without_bytes place count old.service; held = old.held }

-- these bytes for the connection in a place, and none for the others
abbrev pub bytes_at : ℕ → List ℕ → ℕ → List ℕ
bytes_at zero bytes zero = bytes
bytes_at zero bytes (suc other) = []
bytes_at (suc place) bytes zero = []
bytes_at (suc place) bytes (suc other) = bytes_at place bytes other

-- connections, with bytes for each place in front of what waits there
abbrev pub with_front : (ℕ → List ℕ) → List ConnectionParts → List ConnectionParts
with_front front [] = []
with_front front (connection ∷ connections) =
    record { space = connection.space; stage = connection.stage; version = connection.version; out = front 0 ++ connection.out }
    ∷ with_front (λ place. front (suc place)) connections

abbrev pub in_front : (ℕ → List ℕ) → ExchangeParts → ExchangeParts
in_front front old = record {
  service = record { kernel = old.service.kernel; connections = with_front front old.service.connections };
  held = old.held;
}

-- none for a connection that did not come
abbrev pub NoneCame : (ℕ → List ℕ) → List ConnectionParts → Type 0
NoneCame front connections = (place : ℕ) → length connections ≤ place → front place ≡ []

-- where these bytes went out, an exchange as it is, and as it would be if all of them waited: the
-- one is the other but for the bytes in front; so what went out on a connection, followed by what
-- waits, is all that the other has there
pub record IsApart (went : ℕ → List ℕ) (now all : ExchangeParts) : Type 0 where
  pub all_is : all ≡ in_front went now
  pub out : (place : ℕ) → went place ++ (connection_at now.service.connections place).out ≡ (connection_at all.service.connections place).out
  pub none : NoneCame went now.service.connections

-- an output and then an event are the event and then the output: bytes that went out change nothing
-- that happens
abbrev pub OutputApart : Type 0
OutputApart = (memory : Memory) (old new : ExchangeParts) (event : Event) (asked : List Asked) (place count : ℕ)
    → count ≤ length (connection_at old.service.connections place).out
    → Happens memory (put_out place count old) event asked new
    → (last : ExchangeParts) × Happens memory old event asked last × (new ≡ put_out place count last)
