-- What happens on one connection ends no other.
use Rattle.std.proofs.Common.{◌≡◌, ◌≢◌, ℕ, zero, suc, ◌<◌, List, [], ◌∷◌, ◌++◌, length, refl, ap, ◌∙◌, arith}
use Rattle.ipc_exchange.specs.Service.{ConnectionParts, ServiceParts, connection_at}
use Rattle.ipc_exchange.specs.Serving.{Asked, Memory}
use Rattle.ipc_exchange.specs.Events.{Event, Connect, Piece, Finish, Reading, Copy, ExchangeParts, Happens}
use Rattle.ipc_exchange.proofs.ServingLemmas.{delivered_stage}
use Rattle.ipc_exchange.proofs.ExchangeLemmas.{all_others, serves_others}

-- the event is none of the connection in a place
abbrev pub IsElsewhere : Event → ℕ → Type 0
IsElsewhere (Connect space) q = Unit {0}
IsElsewhere (Piece place bytes) q = q ≢ place
IsElsewhere (Finish place) q = q ≢ place
IsElsewhere (Reading moment) q = Unit {0}
IsElsewhere Copy q = Unit {0}

connection_before : (connections : List ConnectionParts) (connection : ConnectionParts) (q : ℕ) → q < length connections → (connection_at (connections ++ connection ∷ []) q).stage ≡ (connection_at connections q).stage
connection_before [] connection q within = absurd (omega arith)
connection_before (l ∷ connections) connection zero within = refl
connection_before (l ∷ connections) connection (suc q) within = connection_before connections connection q (omega arith)

-- then it is at the same stage
pub others_stay : (memory : Memory) (event : Event) (old new : ExchangeParts) (asked : List Asked) (q : ℕ) → Happens memory old event asked new
    → IsElsewhere event q → q < length old.service.connections → (connection_at new.service.connections q).stage ≡ (connection_at old.service.connections q).stage
others_stay memory (Connect space) old new asked q happens other within =
    ap (λ (e : ExchangeParts). (connection_at e.service.connections q).stage) happens.1 ∙ connection_before old.service.connections _ q within
others_stay memory (Piece place bytes) old new asked q happens other within =
    ap (λ (e : ExchangeParts). (connection_at e.service.connections q).stage) happens.new_is ∙ all_others memory place q happens.heard old.service happens.service asked other happens.serves
others_stay memory (Finish place) old new asked q happens other within =
    ap (λ (e : ExchangeParts). (connection_at e.service.connections q).stage) happens.new_is ∙ serves_others memory place q old.service happens.service _ asked other happens.serves
others_stay memory (Reading moment) old new asked q happens other within =
    let (between, obeys, is) = happens.answers in
    ap (λ (e : ExchangeParts). (connection_at e.service.connections q).stage) happens.new_is ∙ ap (λ (s : ServiceParts). (connection_at s.connections q).stage) is ∙ delivered_stage old.service.connections between q
others_stay memory Copy old new asked q happens other within =
    let (between, obeys, is) = happens.answers in
    ap (λ (e : ExchangeParts). (connection_at e.service.connections q).stage) happens.new_is ∙ ap (λ (s : ServiceParts). (connection_at s.connections q).stage) is ∙ delivered_stage old.service.connections between q
