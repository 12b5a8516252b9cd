-- Places in falling order.
use Rattle.std.specs.Prelude.{◌≡◌, ◌≢◌, ℕ, ◌<◌, List, [], ◌∷◌, length, ◌⊎◌, ⊤}
use Rattle.ipc_exchange.specs.Rooms.{RoomyConnection, roomy_at}

-- how many places there are, and those that are listed
pub record PendingParts : Type 0 where
  pub count : ℕ
  pub places : List ℕ

-- each is less than a bound, and less than those before it
abbrev pub FallsFrom : ℕ → List ℕ → Type 0
FallsFrom bound [] = ⊤
FallsFrom bound (place ∷ places) = (place < bound) × FallsFrom place places

-- a place is one of them
abbrev pub IsAmong : ℕ → List ℕ → Type 0
IsAmong place [] = ⊥
IsAmong place (other ∷ places) = (other ≡ place) ⊎ IsAmong place places

-- each connection that has bytes to put out is listed
abbrev pub AllListed : List RoomyConnection → List ℕ → Type 0
AllListed connections places = (place : ℕ) → (roomy_at connections place).connection.out ≢ [] → IsAmong place places

-- there is a place for each connection, and each connection that has bytes to put out is listed
pub record IsListed (connections : List RoomyConnection) (pending : PendingParts) : Type 0 where
  pub count : pending.count ≡ length connections
  pub listed : AllListed connections pending.places
