-- Events, one after the other, and their answers.
use Rattle.std.proofs.Common.{◌≡◌, ℕ, zero, suc, ◌+◌, List, [], ◌∷◌, ◌++◌, Vec, length, take, drop, min, refl, sym, ap, subst, ◌∙◌, arith}
use Rattle.std.specs.Prelude.{nat_le, if◌then◌else◌}
use Rattle.std.specs.declared.alloc.Global.{Global}
use Rattle.std.proofs.lemmas.List.{append-nil, length-take-le, map-append, take_min}
use Rattle.std.proofs.lemmas.Grind.{flat_map-append}
use Rattle.ipc_connection.proofs.ChainLemmas.{chain_both, chain_none, chain_one, chain_push}
use Rattle.ipc_connection.specs.Chain.{Chain}
use Rattle.ipc_exchange.specs.Service.{ServiceParts, connection_at, without_bytes}
use Rattle.ipc_exchange.specs.Serving.{Asked, MayLack}
use Rattle.ipc_exchange.specs.Rooms.{service_of, stage_at}
use Rattle.ipc_exchange.specs.Events.{ExchangeParts, HappenAll, Happens}
use Rattle.ipc_exchange.specs.Events as events
use Rattle.ipc_exchange.specs.Apart.{NoneCame, bytes_at, in_front, put_out}
use Rattle.ipc_exchange.specs.Exchange.{Happened, RoomyExchange, Shows, progress_of}
use Rattle.ipc_words.specs.Limits.{max_connections}
use Rattle.ipc_exchange.specs.Laws.{calls_in}
use Rattle.ipc_exchange.specs.Running.{Goes, Ran, Replied, RepliesTo, Turn, Turns, happened, happening, puts, went_out}
use Rattle.ipc_exchange.specs.declared.event.Event.{Event}
use Rattle.ipc_exchange.specs.declared.event.Event.TheVariants.{Connect, Piece, Finish, Reading, Copy, Output}
use Rattle.ipc_exchange.specs.declared.event.Reply.{Reply}
use Rattle.ipc_exchange.specs.declared.event.Reply.TheVariants.{Connected, Refused, Fed, Put, Done}
use Rattle.ipc_exchange.specs.declared.progress.ConnectRefused.{ConnectRefused}
use Rattle.ipc_exchange.specs.declared.progress.ConnectRefused.TheVariants.{TooMany, NoMemory}
use Rattle.ipc_exchange.specs.declared.progress.Progress.{Progress}
use Rattle.ipc_exchange.specs.declared.progress.Progress.TheVariants.{Finished}
use Rattle.ipc_exchange.proofs.CallLemmas.{calls_are_accepted}
use Rattle.ipc_exchange.proofs.DeliverLemmas.{connections_long}
use Rattle.ipc_exchange.proofs.FeedLemmas.{service_stage}
use Rattle.ipc_exchange.proofs.FrontLemmas.{bytes_none, events_in_front, front_nothing, front_out, front_waits, joined, none_joined, none_more, same_front}

-- One event

-- where no bytes go out, what happens is all
abbrev Plain : Event → Reply → Type 0
Plain event reply = (parts : ExchangeParts) (asked : List Asked) (after : ExchangeParts) → HappenAll MayLack parts (happening event reply) asked after → Goes parts event reply asked after

module _ (old new : RoomyExchange) where
  -- an event of the definitions
  one : (given : Event) (reply : Reply) (event : events.Event) → happening given reply ≡ event ∷ [] → Plain given reply → Happened old event new
      → ((parts after : ExchangeParts) → Shows old parts → Shows new after → RepliesTo parts given reply after)
      → Replied old given reply new
  one given reply event is plain happened replies parts shows =
      let h = happened parts shows in
      (h.0, h.1, (plain parts h.0 h.1 (subst (λ l. HappenAll MayLack parts l h.0 h.1) (sym is) (chain_one (Happens MayLack) event parts h.1 h.0 h.2)), replies parts h.1 shows h.3), h.3)

  -- nothing happens
  nothing : (given : Event) (reply : Reply) → happening given reply ≡ [] → Plain given reply → new ≡ old
      → ((parts : ExchangeParts) → Shows old parts → RepliesTo parts given reply parts)
      → Replied old given reply new
  nothing given reply is plain same replies parts shows =
      ([], parts, (plain parts [] parts (subst (λ l. HappenAll MayLack parts l [] parts) (sym is) (chain_none (Happens MayLack) parts)), replies parts shows), subst (λ e. Shows e parts) (sym same) shows)

  long : (parts : ExchangeParts) → Shows old parts → length parts.service.connections ≡ length old.service.connections
  long parts shows = ap (λ (s : ServiceParts). length s.connections) shows.service ∙ connections_long old.service.connections

  pub connected_replied : (given : Event) (space number : ℕ) → given ≡ Connect space → Happened old (events.Connect space) new → number ≡ length old.service.connections + 1 → Replied old given (Connected number) new
  connected_replied given space number is happened number_is =
      subst (λ e. Replied old e (Connected number) new) (sym is)
      (one (Connect space) (Connected number) (events.Connect space) refl (λ p a x h. h) happened (λ parts after shows shown. number_is ∙ ap (λ n. n + 1) (sym (long parts shows))))

  pub refused_replied : (given : Event) (space : ℕ) (why : ConnectRefused) → given ≡ Connect space → new ≡ old → why ≡ (if nat_le max_connections (length old.service.connections) then TooMany else NoMemory) → Replied old given (Refused why) new
  refused_replied given space why is same cause =
      subst (λ e. Replied old e (Refused why) new) (sym is)
      (nothing (Connect space) (Refused why) refl (λ p a x h. h) same (λ parts shows. cause ∙ ap (λ n. if nat_le max_connections n then TooMany else NoMemory) (sym (long parts shows))))

  shown_stage : (after : ExchangeParts) (place : ℕ) → Shows new after → (connection_at after.service.connections place).stage ≡ stage_at new.service.connections place
  shown_stage after place shows = ap (λ (s : ServiceParts). (connection_at s.connections place).stage) shows.service ∙ service_stage new.service place

  pub piece_replied : (given : Event) (connection : ℕ) (bytes : _) (piece : List ℕ) (done : Progress) → given ≡ Piece connection bytes → piece ≡ bytes.items
      → ((place : ℕ) → connection ≡ place + 1 → Happened old (events.Piece place piece) new)
      → ((place : ℕ) → connection ≡ place + 1 → done ≡ progress_of (stage_at new.service.connections place))
      → (connection ≡ 0 → new ≡ old) → (connection ≡ 0 → done ≡ Finished)
      → Replied old given (Fed done) new
  piece_replied given connection bytes piece done is said happened progress zero_same zero_done =
      subst (λ e. Replied old e (Fed done) new) (sym is) (go connection happened progress zero_same zero_done)
    where
      go : (connection : ℕ) → ((place : ℕ) → connection ≡ place + 1 → Happened old (events.Piece place piece) new)
          → ((place : ℕ) → connection ≡ place + 1 → done ≡ progress_of (stage_at new.service.connections place))
          → (connection ≡ 0 → new ≡ old) → (connection ≡ 0 → done ≡ Finished) → Replied old (Piece connection bytes) (Fed done) new
      go zero happened progress zero_same zero_done = nothing (Piece 0 bytes) (Fed done) refl (λ p a x h. h) (zero_same refl) (λ parts shows. zero_done refl)
      go (suc place) happened progress zero_same zero_done =
          one (Piece (suc place) bytes) (Fed done) (events.Piece place piece) (ap (λ b. events.Piece place b ∷ []) (sym said)) (λ p a x h. h) (happened place (omega arith))
          (λ parts after shows shown. progress place (omega arith) ∙ ap progress_of (sym (shown_stage after place shown)))

  pub finish_replied : (given : Event) (connection : ℕ) → given ≡ Finish connection
      → ((place : ℕ) → connection ≡ place + 1 → Happened old (events.Finish place) new) → (connection ≡ 0 → new ≡ old)
      → Replied old given Done new
  finish_replied given connection is happened zero_same = subst (λ e. Replied old e Done new) (sym is) (go connection happened zero_same)
    where
      go : (connection : ℕ) → ((place : ℕ) → connection ≡ place + 1 → Happened old (events.Finish place) new) → (connection ≡ 0 → new ≡ old) → Replied old (Finish connection) Done new
      go zero happened zero_same = nothing (Finish 0) Done refl (λ p a x h. h) (zero_same refl) (λ parts shows. tt)
      go (suc place) happened zero_same = one (Finish (suc place)) Done (events.Finish place) refl (λ p a x h. h) (happened place (omega arith)) (λ parts after shows shown. tt)

  pub reading_replied : (given : Event) (reading : ℕ) → given ≡ Reading reading → Happened old (events.Reading reading) new → Replied old given Done new
  reading_replied given reading is happened = subst (λ e. Replied old e Done new) (sym is) (one (Reading reading) Done (events.Reading reading) refl (λ p a x h. h) happened (λ parts after shows shown. tt))

  pub copy_replied : (given : Event) → given ≡ Copy → Happened old events.Copy new → Replied old given Done new
  copy_replied given is happened = subst (λ e. Replied old e Done new) (sym is) (one Copy Done events.Copy refl (λ p a x h. h) happened (λ parts after shows shown. tt))

  -- bytes that go out
  pub output_replied : (given : Event) (connection count : ℕ) (room bytes : Vec ℕ Global) (full : List ℕ) → given ≡ Output connection room
      → bytes.items ≡ take count full
      → ((place : ℕ) → connection ≡ place + 1 → count ≡ min (length room.items) (length (connection_at (service_of old.service).connections place).out))
      → ((place : ℕ) → connection ≡ place + 1 → take count full ≡ take count (connection_at (service_of old.service).connections place).out)
      → ((place : ℕ) (parts : ExchangeParts) → connection ≡ place + 1 → Shows old parts → Shows new (record parts { service = without_bytes place count parts.service }))
      → (connection ≡ 0 → new ≡ old) → (connection ≡ 0 → count ≡ 0)
      → Replied old given (Put bytes) new
  output_replied given connection count room bytes full is cut counts taken left zero_same zero_none =
      subst (λ e. Replied old e (Put bytes) new) (sym is) (go connection counts taken left zero_same zero_none)
    where
      go : (connection : ℕ) → ((place : ℕ) → connection ≡ place + 1 → count ≡ min (length room.items) (length (connection_at (service_of old.service).connections place).out))
          → ((place : ℕ) → connection ≡ place + 1 → take count full ≡ take count (connection_at (service_of old.service).connections place).out)
          → ((place : ℕ) (parts : ExchangeParts) → connection ≡ place + 1 → Shows old parts → Shows new (record parts { service = without_bytes place count parts.service }))
          → (connection ≡ 0 → new ≡ old) → (connection ≡ 0 → count ≡ 0) → Replied old (Output connection room) (Put bytes) new
      go zero counts taken left zero_same zero_none =
          nothing (Output 0 room) (Put bytes) refl (λ p a x h. h) (zero_same refl) (λ parts shows. cut ∙ ap (λ n. take n full) (zero_none refl))
      go (suc place) counts taken left zero_same zero_none =
          λ parts shows.
          let at : suc place ≡ place + 1 = omega arith in
          let waits = (connection_at parts.service.connections place).out in
          let here : (connection_at (service_of old.service).connections place).out ≡ waits = ap (λ (s : ServiceParts). (connection_at s.connections place).out) (sym shows.service) in
          let gives : bytes.items ≡ take count waits = cut ∙ (taken place at ∙ ap (take count) here) in
          let count_is : count ≡ min (length room.items) (length waits) = counts place at ∙ ap (λ (out : List ℕ). min (length room.items) (length out)) here in
          let long : length bytes.items ≡ count = ap length gives ∙ length-take-le count waits (omega (arith, count_is)) in
          let reply : bytes.items ≡ take (length room.items) waits = gives ∙ (ap (λ n. take n waits) count_is ∙ take_min (length room.items) waits) in
          ([], put_out place (length bytes.items) parts, ((refl, refl), reply), subst (λ n. Shows new (put_out place n parts)) (sym long) (left place parts at shows))

-- What goes out, put back in front

record GoesInFront (front : ℕ → List ℕ) (parts after : ExchangeParts) (event : Event) (reply : Reply) (asked : List Asked) : Type 0 where
  pub happen : HappenAll MayLack (in_front front parts) (happening event reply) asked (in_front (joined front (puts event reply)) after)
  pub none : NoneCame (joined front (puts event reply)) after.service.connections

module _ (front : ℕ → List ℕ) (parts after : ExchangeParts) (asked : List Asked) (none : NoneCame front parts.service.connections) where
  plainly : (event : Event) (reply : Reply) → ((place : ℕ) → puts event reply place ≡ []) → HappenAll MayLack parts (happening event reply) asked after → GoesInFront front parts after event reply asked
  plainly event reply quiet happen =
      let moved = events_in_front MayLack front (happening event reply) parts after asked none happen in
      let same : joined front (puts event reply) ≡ front = same_front _ _ (λ place. ap (λ b. front place ++ b) (quiet place) ∙ append-nil (front place)) in
      record {
        happen = subst (λ (f : ℕ → List ℕ). HappenAll MayLack (in_front front parts) (happening event reply) asked (in_front f after)) (sym same) moved.happen;
        none = subst (λ (f : ℕ → List ℕ). NoneCame f after.service.connections) (sym same) moved.none;
      }

  -- what goes out, and what it leaves
  whole_again : (n : ℕ) (bytes waits : List ℕ) → bytes ≡ take n waits → bytes ++ drop (length bytes) waits ≡ waits
  whole_again n bytes waits is = subst (λ b. b ++ drop (length b) waits ≡ waits) (sym is) (front_back n waits)
    where
      front_back : (n : ℕ) (xs : List ℕ) → take n xs ++ drop (length (take n xs)) xs ≡ xs
      front_back zero xs = refl
      front_back (suc n) [] = refl
      front_back (suc n) (x ∷ xs) = ap (λ l. x ∷ l) (front_back n xs)

  outputs : (place : ℕ) (room bytes : Vec ℕ Global) → Goes parts (Output (suc place) room) (Put bytes) asked after → RepliesTo parts (Output (suc place) room) (Put bytes) after → GoesInFront front parts after (Output (suc place) room) (Put bytes) asked
  unfolding Chain
  outputs place room bytes goes reply =
      let connections = parts.service.connections in
      let rest = drop (length bytes.items) (connection_at connections place).out in
      let whole = whole_again (length room.items) bytes.items (connection_at connections place).out reply in
      let more = joined front (bytes_at place bytes.items) in
      let back : in_front more after ≡ in_front front parts =
      ap (in_front more) goes.1
      ∙ ap (λ ls. record { service = record { kernel = parts.service.kernel; connections = ls }; held = parts.held }) (front_out front connections place bytes.items rest whole) in
      record {
        happen = (goes.0, back);
        none = subst (λ (x : ExchangeParts). NoneCame more x.service.connections) (sym goes.1)
            (none_more more connections place _ (none_joined front (bytes_at place bytes.items) connections none (bytes_none connections place bytes.items rest whole)));
      }

  goes_in_front : (event : Event) (reply : Reply) → Goes parts event reply asked after → RepliesTo parts event reply after → GoesInFront front parts after event reply asked
  goes_in_front (Connect space) reply goes replies = plainly (Connect space) reply (λ p. refl) goes
  goes_in_front (Piece connection bytes) reply goes replies = plainly (Piece connection bytes) reply (λ p. refl) goes
  goes_in_front (Finish connection) reply goes replies = plainly (Finish connection) reply (λ p. refl) goes
  goes_in_front (Reading reading) reply goes replies = plainly (Reading reading) reply (λ p. refl) goes
  goes_in_front Copy reply goes replies = plainly Copy reply (λ p. refl) goes
  goes_in_front (Output zero room) reply goes replies = plainly (Output zero room) reply (λ p. refl) goes
  goes_in_front (Output (suc place) room) (Put bytes) goes replies = outputs place room bytes goes replies
  goes_in_front (Output (suc place) room) (Connected number) goes replies = plainly (Output (suc place) room) (Connected number) (λ p. refl) goes
  goes_in_front (Output (suc place) room) (Refused why) goes replies = plainly (Output (suc place) room) (Refused why) (λ p. refl) goes
  goes_in_front (Output (suc place) room) (Fed done) goes replies = plainly (Output (suc place) room) (Fed done) (λ p. refl) goes
  goes_in_front (Output (suc place) room) Done goes replies = plainly (Output (suc place) room) Done (λ p. refl) goes

-- And a list of them

pub ran_none : (first : ExchangeParts) (exchange : RoomyExchange) (replies : List Reply) → Shows exchange first → replies ≡ [] → Ran first [] replies exchange
ran_none first exchange replies shows none = record {
  turns = [];
  events_are = refl;
  replies_are = sym none;
  asked = [];
  parts = first;
  chain = chain_none Turns first;
  shows = shows;
  all = first;
  happens = chain_none (Happens MayLack) first;
  apart = record {
    all_is = sym (ap (λ l. record { service = record { kernel = first.service.kernel; connections = l }; held = first.held }) (front_nothing first.service.connections));
    out = λ place. refl;
    none = λ place past. refl;
  };
  calls = sym (append-nil (calls_in first.service.kernel.history));
}

pub ran_more : (first : ExchangeParts) (done : List Event) (replies more : List Reply) (old new : RoomyExchange) (event : Event) (reply : Reply) → Ran first done replies old → Replied old event reply new → more ≡ replies ++ reply ∷ [] → Ran first (done ++ event ∷ []) more new
ran_more first done replies more old new event reply ran replied pushed =
    let (asked, after, turns, shows) = replied ran.parts ran.shows in
    let turn : Turn = record { event = event; reply = reply } in
    let moved = goes_in_front (went_out ran.turns) ran.parts after asked ran.apart.none event reply turns.0 turns.1 in
    let went : went_out (ran.turns ++ turn ∷ []) ≡ joined (went_out ran.turns) (puts event reply) =
    same_front _ _ (λ place. flat_map-append (λ (t : Turn). puts t.event t.reply place) ran.turns (turn ∷ []) ∙ ap (λ l. went_out ran.turns place ++ l) (append-nil (puts event reply place))) in
    let none : NoneCame (went_out (ran.turns ++ turn ∷ [])) after.service.connections = subst (λ (f : ℕ → List ℕ). NoneCame f after.service.connections) (sym went) moved.none in
    let last : ExchangeParts = in_front (went_out (ran.turns ++ turn ∷ [])) after in
    let step : HappenAll MayLack ran.all (happening event reply) asked last =
    subst (λ (x : ExchangeParts). HappenAll MayLack x (happening event reply) asked last) (sym ran.apart.all_is)
    (subst (λ (f : ℕ → List ℕ). HappenAll MayLack (in_front (went_out ran.turns) ran.parts) (happening event reply) asked (in_front f after)) (sym went) moved.happen) in
    let all : HappenAll MayLack first (happened (ran.turns ++ turn ∷ [])) (ran.asked ++ asked) last =
    subst (λ l. HappenAll MayLack first l (ran.asked ++ asked) last)
    (ap (λ l. happened ran.turns ++ l) (sym (append-nil (happening event reply))) ∙ sym (flat_map-append (λ (t : Turn). happening t.event t.reply) ran.turns (turn ∷ [])))
    (chain_both (Happens MayLack) (happened ran.turns) (happening event reply) first ran.all last ran.asked asked ran.happens step) in
    record {
      turns = ran.turns ++ turn ∷ [];
      events_are = map-append (λ (t : Turn). t.event) ran.turns (turn ∷ []) ∙ ap (λ l. l ++ event ∷ []) ran.events_are;
      replies_are = map-append (λ (t : Turn). t.reply) ran.turns (turn ∷ []) ∙ (ap (λ l. l ++ reply ∷ []) ran.replies_are ∙ sym pushed);
      asked = ran.asked ++ asked;
      parts = after;
      chain = chain_push Turns ran.turns turn first ran.parts after ran.asked asked ran.chain turns;
      shows = shows;
      all = last;
      happens = all;
      apart = record { all_is = refl; out = λ place. front_waits (went_out (ran.turns ++ turn ∷ [])) after.service.connections place none; none = none };
      calls = calls_are_accepted MayLack first last (happened (ran.turns ++ turn ∷ [])) (ran.asked ++ asked) all;
    }
