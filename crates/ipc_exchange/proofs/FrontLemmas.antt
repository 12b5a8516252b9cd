-- Bytes that went out, put back in front of what waits: all happens alike.
use Rattle.std.proofs.Common.{◌≡◌, ℕ, zero, suc, ◌+◌, ◌≤◌, List, [], ◌∷◌, ◌++◌, length, take, drop, refl, sym, ap, ap₂, subst, ◌∙◌, append_assoc, arith, length-append, length-set}
use Rattle.std.specs.Prelude.{cond, not, slice_set}
use Rattle.std.proofs.lemmas.List.{append-nil, length-take-le, take-append-drop}
use Rattle.ipc_frame.specs.declared.version.WireVersion.{WireVersion}
use Rattle.ipc_frame.specs.declared.version.WireVersion.TheVariants.{One}
use Rattle.ipc_core.specs.KernelParts.{KernelParts}
use Rattle.ipc_connection.specs.declared.stage.Stage.{Stage}
use Rattle.ipc_connection.specs.declared.stage.Stage.TheVariants.{Greeting}
use Rattle.ipc_connection.proofs.ChainLemmas.{chain_one}
use Rattle.ipc_connection.specs.Chain.{Chain}
use Rattle.ipc_exchange.specs.Service.{ConnectionParts, connection_at, place_of, serves_number}
use Rattle.ipc_exchange.specs.Serving.{Asked, Memory}
use Rattle.ipc_exchange.specs.Events.{Event, ExchangeParts, HappenAll, Happens}
use Rattle.ipc_exchange.specs.Apart.{OutputApart, NoneCame, bytes_at, in_front, put_out, with_front}
use Rattle.ipc_exchange.proofs.MovedLemmas.{PassesTold, events_seen, newcomer, with_more}

-- one place further
abbrev pub next : (ℕ → List ℕ) → ℕ → List ℕ
next front place = front (suc place)

front_stage : (front : ℕ → List ℕ) (connections : List ConnectionParts) (place : ℕ) → (connection_at (with_front front connections) place).stage ≡ (connection_at connections place).stage
front_stage front [] place = refl
front_stage front (connection ∷ connections) zero = refl
front_stage front (connection ∷ connections) (suc place) = front_stage (next front) connections place

front_space : (front : ℕ → List ℕ) (connections : List ConnectionParts) (place : ℕ) → (connection_at (with_front front connections) place).space ≡ (connection_at connections place).space
front_space front [] place = refl
front_space front (connection ∷ connections) zero = refl
front_space front (connection ∷ connections) (suc place) = front_space (next front) connections place

front_version : (front : ℕ → List ℕ) (connections : List ConnectionParts) (place : ℕ) → (connection_at (with_front front connections) place).version ≡ (connection_at connections place).version
front_version front [] place = refl
front_version front (connection ∷ connections) zero = refl
front_version front (connection ∷ connections) (suc place) = front_version (next front) connections place

front_more : (front : ℕ → List ℕ) (connections : List ConnectionParts) (place : ℕ) (to : Stage → Stage) (speaks : WireVersion → WireVersion) (text : List ℕ) → with_more (with_front front connections) place to speaks text ≡ with_front front (with_more connections place to speaks text)
front_more front [] place to speaks text = refl
front_more front (connection ∷ connections) zero to speaks text =
    ap (λ (out : List ℕ). record { space = connection.space; stage = to connection.stage; version = speaks connection.version; out = out } ∷ with_front (next front) connections) (append_assoc (front 0) connection.out text)
front_more front (connection ∷ connections) (suc place) to speaks text =
    ap (λ (more : List ConnectionParts). record { space = connection.space; stage = connection.stage; version = connection.version; out = front 0 ++ connection.out } ∷ more) (front_more (next front) connections place to speaks text)

none_next : (front : ℕ → List ℕ) (connection : ConnectionParts) (connections : List ConnectionParts) → NoneCame front (connection ∷ connections) → NoneCame (next front) connections
none_next front connection connections none place past = none (suc place) (omega (arith, past))

pub none_more : (front : ℕ → List ℕ) (connections : List ConnectionParts) (place : ℕ) (connection : ConnectionParts) → NoneCame front connections → NoneCame front (slice_set connections place connection)
none_more front connections place connection none other past = none other (subst (λ n. n ≤ other) (length-set connections place connection) past)

front_new : (front : ℕ → List ℕ) (connections : List ConnectionParts) (space : ℕ) → NoneCame front connections → with_front front connections ++ newcomer space ∷ [] ≡ with_front front (connections ++ newcomer space ∷ [])
front_new front [] space none = ap (λ (bytes : List ℕ). record { space = space; stage = Greeting; version = One; out = bytes ++ [] } ∷ []) (sym (none 0 (omega arith)))
front_new front (connection ∷ connections) space none =
    ap (λ (more : List ConnectionParts). record { space = connection.space; stage = connection.stage; version = connection.version; out = front 0 ++ connection.out } ∷ more) (front_new (next front) connections space (none_next front connection connections none))

none_new : (front : ℕ → List ℕ) (connections : List ConnectionParts) (space : ℕ) → NoneCame front connections → NoneCame front (connections ++ newcomer space ∷ [])
none_new front connections space none place past = none place (omega (arith, past, length-append connections (newcomer space ∷ [])))

front_place : (front : ℕ → List ℕ) (number : ℕ) (connections : List ConnectionParts) → place_of number (with_front front connections) ≡ place_of number connections
unfolding place_of
front_place front number [] = refl
front_place front number (connection ∷ connections) = ap (λ (n : ℕ). cond (not (serves_number number connection.stage)) (1 + n) 0) (front_place (next front) number connections)

-- all happens alike
pub fronted : (front : ℕ → List ℕ) → PassesTold (λ (kernel : KernelParts). kernel) (with_front front) (NoneCame front)
fronted front = record {
  outcome = λ kernel stage. refl;
  taken = λ kernel outcome. refl;
  stage = front_stage front;
  space = front_space front;
  version = front_version front;
  moment = λ kernel. refl;
  more = λ connections place to speaks text none. front_more front connections place to speaks text;
  fits_more = λ connections place to speaks text none. none_more front connections place _ none;
  new = front_new front;
  fits_new = none_new front;
  place = front_place front;
}

pub record InFront (memory : Memory) (front : ℕ → List ℕ) (old new : ExchangeParts) (events : List Event) (asked : List Asked) : Type 0 where
  pub happen : HappenAll memory (in_front front old) events asked (in_front front new)
  pub none : NoneCame front new.service.connections

pub events_in_front : (memory : Memory) (front : ℕ → List ℕ) (events : List Event) (old new : ExchangeParts) (asked : List Asked) → NoneCame front old.service.connections → HappenAll memory old events asked new → InFront memory front old new events asked
events_in_front memory front events old new asked none happen =
    let both = events_seen (λ (kernel : KernelParts). kernel) (with_front front) (NoneCame front) (fronted front) memory (λ old new command answer obeys. obeys) events old new asked none happen in
    record { happen = both.0; none = both.1 }

-- Bytes that go out, and then stand in front

pub bytes_nowhere : (place other : ℕ) → bytes_at place [] other ≡ []
bytes_nowhere zero zero = refl
bytes_nowhere zero (suc other) = refl
bytes_nowhere (suc place) zero = refl
bytes_nowhere (suc place) (suc other) = bytes_nowhere place other

-- more in front
abbrev pub joined : (ℕ → List ℕ) → (ℕ → List ℕ) → ℕ → List ℕ
joined front more place = front place ++ more place

joined_none : (front : ℕ → List ℕ) (connections : List ConnectionParts) → with_front (λ place. front place ++ []) connections ≡ with_front front connections
joined_none front [] = refl
joined_none front (connection ∷ connections) =
    ap₂ (λ (bytes : List ℕ) (more : List ConnectionParts). record { space = connection.space; stage = connection.stage; version = connection.version; out = bytes ++ connection.out } ∷ more) (append-nil (front 0)) (joined_none (next front) connections)

-- bytes that went out stand in front of what they left
pub front_out : (front : ℕ → List ℕ) (connections : List ConnectionParts) (place : ℕ) (bytes rest : List ℕ) → bytes ++ rest ≡ (connection_at connections place).out
    → with_front (joined front (bytes_at place bytes)) (slice_set connections place (record (connection_at connections place) { out = rest })) ≡ with_front front connections
front_out front [] place bytes rest is = refl
front_out front (connection ∷ connections) zero bytes rest is =
    ap₂ (λ (out : List ℕ) (more : List ConnectionParts). record { space = connection.space; stage = connection.stage; version = connection.version; out = out } ∷ more)
    (append_assoc (front 0) bytes rest ∙ ap (λ (out : List ℕ). front 0 ++ out) is) (joined_none (next front) connections)
front_out front (connection ∷ connections) (suc place) bytes rest is =
    ap₂ (λ (out : List ℕ) (more : List ConnectionParts). record { space = connection.space; stage = connection.stage; version = connection.version; out = out ++ connection.out } ∷ more)
    (append-nil (front 0)) (front_out (next front) connections place bytes rest is)

-- what is in front of a connection, and what waits on it
pub front_waits : (front : ℕ → List ℕ) (connections : List ConnectionParts) (place : ℕ) → NoneCame front connections → front place ++ (connection_at connections place).out ≡ (connection_at (with_front front connections) place).out
front_waits front [] place none = ap (λ (bytes : List ℕ). bytes ++ []) (none place (omega arith))
front_waits front (connection ∷ connections) zero none = refl
front_waits front (connection ∷ connections) (suc place) none = front_waits (next front) connections place (none_next front connection connections none)

-- no bytes go out of a connection that did not come
pub bytes_none : (connections : List ConnectionParts) (place : ℕ) (bytes rest : List ℕ) → bytes ++ rest ≡ (connection_at connections place).out → NoneCame (bytes_at place bytes) connections
bytes_none [] place bytes rest is other past =
    let none : bytes ≡ [] = no_front bytes rest is in
    ap (λ (b : List ℕ). bytes_at place b other) none ∙ bytes_nowhere place other
  where
    no_front : (front back : List ℕ) → front ++ back ≡ [] → front ≡ []
    no_front [] back e = refl
    no_front (byte ∷ front) back e = absurd cc
bytes_none (connection ∷ connections) zero bytes rest is zero past = absurd (omega (arith, past))
bytes_none (connection ∷ connections) zero bytes rest is (suc other) past = refl
bytes_none (connection ∷ connections) (suc place) bytes rest is zero past = refl
bytes_none (connection ∷ connections) (suc place) bytes rest is (suc other) past = bytes_none connections place bytes rest is other (omega (arith, past))

pub none_joined : (front more : ℕ → List ℕ) (connections : List ConnectionParts) → NoneCame front connections → NoneCame more connections → NoneCame (joined front more) connections
none_joined front more connections none also place past = ap₂ (λ (a b : List ℕ). a ++ b) (none place past) (also place past)

-- nothing in front
pub front_nothing : (connections : List ConnectionParts) → with_front (λ place. []) connections ≡ connections
front_nothing [] = refl
front_nothing (connection ∷ connections) = ap (λ (more : List ConnectionParts). connection ∷ more) (front_nothing connections)

-- the same in front, place by place
pub same_front : (front other : ℕ → List ℕ) → ((place : ℕ) → front place ≡ other place) → front ≡ other
same_front front other same = λ i. λ place. same place i

-- An output before an event

-- the bytes that went out, in front again
put_back : (exchange : ExchangeParts) (place count : ℕ) → in_front (bytes_at place (take count (connection_at exchange.service.connections place).out)) (put_out place count exchange) ≡ exchange
put_back exchange place count =
    ap (λ (connections : List ConnectionParts). record { service = record { kernel = exchange.service.kernel; connections = connections }; held = exchange.held })
    (front_out (λ p. []) exchange.service.connections place _ _ (take-append-drop count (connection_at exchange.service.connections place).out) ∙ front_nothing exchange.service.connections)

dropped : (place : ℕ) (bytes : List ℕ) (connections : List ConnectionParts) → slice_set (with_front (bytes_at place bytes) connections) place (record (connection_at (with_front (bytes_at place bytes) connections) place) { out = drop (length bytes) (connection_at (with_front (bytes_at place bytes) connections) place).out }) ≡ connections
dropped place bytes [] = refl
dropped zero bytes (connection ∷ connections) =
    ap₂ (λ (out : List ℕ) (more : List ConnectionParts). record { space = connection.space; stage = connection.stage; version = connection.version; out = out } ∷ more) (drop_front bytes connection.out) (front_nothing connections)
  where
    drop_front : (front back : List ℕ) → drop (length front) (front ++ back) ≡ back
    drop_front [] back = refl
    drop_front (byte ∷ front) back = drop_front front back
dropped (suc place) bytes (connection ∷ connections) = ap (λ (more : List ConnectionParts). connection ∷ more) (dropped place bytes connections)

pub output_apart : OutputApart
unfolding Chain
output_apart memory old new event asked place count enough happens =
    let bytes = take count (connection_at old.service.connections place).out in
    let front = bytes_at place bytes in
    let none = bytes_none old.service.connections place bytes _ (take-append-drop count (connection_at old.service.connections place).out) in
    let before = none_more front old.service.connections place _ none in
    let moved = events_in_front memory front (event ∷ []) (put_out place count old) new asked before (chain_one (Happens memory) event (put_out place count old) new asked happens) in
    let all : HappenAll memory old (event ∷ []) asked (in_front front new) = subst (λ (x : ExchangeParts). HappenAll memory x (event ∷ []) asked (in_front front new)) (put_back old place count) moved.happen in
    let (first, rest, between, is, here, (told, end)) = all in
    let long : length bytes ≡ count = length-take-le count (connection_at old.service.connections place).out enough in
    let last : Happens memory old event asked (in_front front new) =
    subst (λ (x : ExchangeParts). Happens memory old event asked x) (sym end)
    (subst (λ (xs : List Asked). Happens memory old event xs between) (sym (is ∙ (ap (λ (l : List Asked). first ++ l) told ∙ append-nil first))) here) in (
      in_front front new,
      last,
      sym (ap (λ (n : ℕ). put_out place n (in_front front new)) (sym long) ∙ ap (λ (connections : List ConnectionParts). record { service = record { kernel = new.service.kernel; connections = connections }; held = new.held }) (dropped place bytes new.service.connections)),
    )
