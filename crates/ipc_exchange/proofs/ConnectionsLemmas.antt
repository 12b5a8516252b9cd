-- Each connection that has bytes to put out is listed.
use Rattle.std.proofs.Common.{◌≡◌, ◌≢◌, ℕ, zero, suc, ◌<◌, ◌≤◌, ◌+◌, ◌==◌, eqb-true, Bool, true, false, List, [], ◌∷◌, ◌++◌, length, drop, refl, sym, ap, subst, ◌∙◌, arith, length-append, Option, Some, None, IfSome}
use Rattle.std.specs.Prelude.{slice_index_or, slice_set}
use Rattle.std.proofs.lemmas.Bool.{eqb-false}
use Rattle.std.proofs.lemmas.List.{get_or-set_same, get_or-set_other, length-set}
use Rattle.std.proofs.Math.Seq.{drop-nil}
use Rattle.ipc_exchange.specs.Pending.{IsAmong, IsListed, PendingParts}
use Rattle.ipc_exchange.specs.Service.{ConnectionParts, connection_at}
use Rattle.ipc_exchange.specs.Rooms.{RoomyConnection, connections_of, roomless, roomy_at}
use Rattle.ipc_exchange.proofs.TellingLemmas.{connection_there}

-- what holds of each connection where one changed
set_each : (connections : List RoomyConnection) (place : ℕ) (roomy : RoomyConnection) → place < length connections → (P : ℕ → RoomyConnection → Type 0) → P place roomy → ((q : ℕ) → q ≢ place → P q (roomy_at connections q)) → (q : ℕ) → P q (roomy_at (slice_set connections place roomy) q)
set_each connections place roomy within P here others q = go (q == place) refl
  where
    go : (b : Bool) → (q == place) ≡ b → P q (roomy_at (slice_set connections place roomy) q)
    go true e =
        let same : q ≡ place = eqb-true q place e in
        subst (λ k. P k (roomy_at (slice_set connections place roomy) k)) (sym same) (subst (P place) (sym (get_or-set_same connections place roomy roomless within)) here)
    go false e =
        let other : q ≢ place = eqb-false q place e in
        subst (P q) (sym (get_or-set_other connections place q roomy roomless other)) (others q other)

-- the connection that was read
pub roomy_read : (connections : List RoomyConnection) (place : ℕ) (roomy : RoomyConnection) → place < length connections → roomy ≡ slice_index_or connections place roomy → roomy ≡ roomy_at connections place
roomy_read [] place roomy h e = absurd (omega arith)
roomy_read (s ∷ connections) zero roomy h e = e
roomy_read (s ∷ connections) (suc place) roomy h e = roomy_read connections place roomy (omega arith) e

pub none_listed : IsListed [] (record { count = 0; places = [] })
none_listed = record { count = refl; listed = λ q some. absurd (some refl) }

module _ (connections : List RoomyConnection) (place : ℕ) (roomy : RoomyConnection) (within : place < length connections) where
  -- a connection to which something was told is listed
  pub told_listed : (old new : PendingParts) → IsListed connections old → new.count ≡ old.count → IsAmong place new.places → ((q : ℕ) → IsAmong q old.places → IsAmong q new.places) → IsListed (slice_set connections place roomy) new
  told_listed old new all count here kept = record {
    count = count ∙ (all.count ∙ sym (length-set connections place roomy));
    listed = set_each connections place roomy within (λ q (l : RoomyConnection). l.connection.out ≢ [] → IsAmong q new.places) (λ some. here) (λ q other some. kept q (all.listed q some));
  }

  -- one that has nothing more to put out may be taken off
  pub empty_listed : (old new : PendingParts) → IsListed connections old → new.count ≡ old.count → roomy.connection.out ≡ [] → ((q : ℕ) → IsAmong q old.places → q ≢ place → IsAmong q new.places) → IsListed (slice_set connections place roomy) new
  empty_listed old new all count none kept = record {
    count = count ∙ (all.count ∙ sym (length-set connections place roomy));
    listed = set_each connections place roomy within (λ q (l : RoomyConnection). l.connection.out ≢ [] → IsAmong q new.places) (λ some. absurd (some none)) (λ q other some. kept q (all.listed q some) other);
  }

  -- one that has no more to put out than before stays as it is
  pub less_listed : (pending : PendingParts) (count : ℕ) → IsListed connections pending → roomy.connection.out ≡ drop count (roomy_at connections place).connection.out → IsListed (slice_set connections place roomy) pending
  less_listed pending count all less = record {
    count = all.count ∙ sym (length-set connections place roomy);
    listed = set_each connections place roomy within (λ q (l : RoomyConnection). l.connection.out ≢ [] → IsAmong q pending.places) (λ some. all.listed place (λ none. some (less ∙ (ap (drop count) none ∙ drop-nil count)))) (λ q other some. all.listed q some);
  }

-- one more connection, with nothing to put out
pub more_listed : (connections : List RoomyConnection) (roomy : RoomyConnection) (old new : PendingParts) → IsListed connections old → roomy.connection.out ≡ [] → new.count ≡ old.count + 1 → new.places ≡ old.places → IsListed (connections ++ roomy ∷ []) new
more_listed connections roomy old new all none count places = record {
  count = omega (arith, count, all.count, length-append connections (roomy ∷ []));
  listed = λ q some. subst (IsAmong q) (sym places) (all.listed q (λ was. some (pushed connections q was)));
}
  where
    pushed : (connections : List RoomyConnection) (q : ℕ) → (roomy_at connections q).connection.out ≡ [] → (roomy_at (connections ++ roomy ∷ []) q).connection.out ≡ []
    pushed [] zero was = none
    pushed [] (suc q) was = refl
    pushed (l ∷ connections) zero was = was
    pushed (l ∷ connections) (suc q) was = pushed connections q was

-- a connection that is not listed has nothing to put out
empty_bytes : (bytes : List ℕ) → (bytes ≢ [] → ⊥) → bytes ≡ []
empty_bytes [] not = refl
empty_bytes (b ∷ bytes) not = absurd (not (λ e. (cc)))

pub unlisted : (connections : List RoomyConnection) (pending : PendingParts) (q : ℕ) → IsListed connections pending → (IsAmong q pending.places → ⊥) → (roomy_at connections q).connection.out ≡ []
unlisted connections pending q all none = empty_bytes (roomy_at connections q).connection.out (λ some. none (all.listed q some))

pub first_unlisted : (connections : List RoomyConnection) (pending : PendingParts) (from : ℕ) (next : Option ℕ) → IsListed connections pending → IfSome next (λ place. (other : ℕ) → from ≤ other → IsAmong other pending.places → place ≤ other) → IfSome next (λ place. (other : ℕ) → from ≤ other → other < place → (roomy_at connections other).connection.out ≡ [])
first_unlisted connections pending from None all first = tt
first_unlisted connections pending from (Some place) all first = λ other most less. unlisted connections pending other all (λ among. (let least = first other most among in omega (arith, least, less)))

pub none_unlisted : (connections : List RoomyConnection) (pending : PendingParts) (from : ℕ) → IsListed connections pending → ((other : ℕ) → IsAmong other pending.places → other < from) → (other : ℕ) → from ≤ other → (roomy_at connections other).connection.out ≡ []
none_unlisted connections pending from all none other most = unlisted connections pending other all (λ among. (let less = none other among in omega (arith, most, less)))

-- so of the connections without their room
pub first_connection : (connections : List RoomyConnection) (from : ℕ) (next : Option ℕ) → IfSome next (λ place. (other : ℕ) → from ≤ other → other < place → (roomy_at connections other).connection.out ≡ []) → IfSome next (λ place. (other : ℕ) → from ≤ other → other < place → (connection_at (connections_of connections) other).out ≡ [])
first_connection connections from None first = tt
first_connection connections from (Some place) first = λ other most less. ap (λ (l : ConnectionParts). l.out) (connection_there connections other) ∙ first other most less
