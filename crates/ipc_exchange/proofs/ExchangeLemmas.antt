-- What an exchange stands for after an event.
use Rattle.std.proofs.Common.{◌≡◌, ◌≢◌, ℕ, zero, suc, ◌<◌, ◌≤◌, ◌+◌, ◌-◌, ◌==◌, eqb-true, Bool, true, false, List, [], ◌∷◌, ◌++◌, Result, refl, sym, ap, subst, ◌∙◌, length, arith, length-append, inl}
use Rattle.std.proofs.lemmas.Bool.{eqb-false}
use Rattle.std.proofs.lemmas.List.{get_or-set_same, get_or-set_other, length-map, length-set, set-get_or}
use Rattle.std.specs.Prelude.{slice_index_or, slice_set}
use Rattle.ipc_frame.specs.Stream.{stream_of}
use Rattle.ipc_frame.specs.declared.fault.FrameFault.{FrameFault}
use Rattle.ipc_frame.specs.declared.kind.Side.TheVariants.{Server}
use Rattle.ipc_core.specs.declared.command.Command.{Command}
use Rattle.ipc_connection.specs.Hearing.{heard_at_end, heard_in, left_in}
use Rattle.ipc_connection.specs.Taking.{Decoding, Holds}
use Rattle.ipc_connection.specs.declared.heard.Heard.{Heard}
use Rattle.ipc_connection.specs.Asking.{asks}
use Rattle.ipc_connection.specs.Chain.{Chain}
use Rattle.ipc_connection.specs.declared.asking.Reaction.{Reaction}
use Rattle.ipc_connection.specs.declared.asking.Reaction.TheVariants.{Ask, Leave, Refuse, Nothing}
use Rattle.ipc_connection.specs.declared.stage.Stage.{Stage}
use Rattle.ipc_connection.specs.declared.stage.Stage.TheVariants.{Greeting, Serving, Finished}
use Rattle.ipc_exchange.specs.Service.{ConnectionParts, ServiceParts, connection_at, nobody, told_connection, with_connection, without_bytes}
use Rattle.ipc_exchange.specs.Serving.{Answers, Asked, DoesAlone, MayLack, Memory, Serves, ServesAll, ServesBy, Tells, first_kernel}
use Rattle.ipc_exchange.specs.Rooms.{Ready, RoomyConnection, RoomyService, StaysReady, service_of, stage_at}
use Rattle.ipc_exchange.specs.Events.{Commands, Connect, Event, ExchangeParts, Finish, Piece, connected, empty_exchange, held_at, holding, kept}
use Rattle.ipc_exchange.specs.Feeding.{FeedsConnection, HoldsFor, has_finished}
use Rattle.ipc_exchange.specs.Exchange.{ClosesConnection, Happened, IsExchange, RoomyExchange, Shows, ShowsHeld, decoder_at, no_decoder}
use Rattle.ipc_exchange.proofs.ServingLemmas.{all_idle_again, delivered_stage, idle_again, set_stage}
use Rattle.ipc_exchange.proofs.DeliverLemmas.{past_stage}
use Rattle.ipc_exchange.proofs.FeedLemmas.{finished_is, service_stage}

-- Serving one connection leaves the stages of the others

tells_others : (memory : Memory) (place q : ℕ) (old new : ServiceParts) (asked : List Asked) (told : _) → q ≢ place → Tells memory old place told asked new → (connection_at new.connections q).stage ≡ (connection_at old.connections q).stage
tells_others memory place q old new asked told other tells =
    ap (λ (s : ServiceParts). (connection_at s.connections q).stage) tells.new_is
    ∙ (delivered_stage (slice_set old.connections place (told_connection told (connection_at old.connections place))) tells.kernel q ∙ ap (λ (l : ConnectionParts). l.stage) (get_or-set_other old.connections place q (told_connection told (connection_at old.connections place)) nobody other))

pub serves_others : (memory : Memory) (place q : ℕ) (old new : ServiceParts) (heard : Result Heard FrameFault) (asked : List Asked) → q ≢ place → Serves memory old place heard asked new → (connection_at new.connections q).stage ≡ (connection_at old.connections q).stage
unfolding Serves
serves_others memory place q old new heard asked other serves = go (asks (connection_at old.connections place).stage heard) serves
  where
    go : (reaction : Reaction) → ServesBy memory old place reaction asked new → (connection_at new.connections q).stage ≡ (connection_at old.connections q).stage
    go Nothing s = ap (λ (x : ServiceParts). (connection_at x.connections q).stage) s.1
    go (Ask request) s = tells_others memory place q _ new s.rest _ other s.tells
    go Leave s = tells_others memory place q old new asked _ other s
    go (Refuse class number) s = tells_others memory place q old new asked _ other s

pub all_others : (memory : Memory) (place q : ℕ) (heard : List (Result Heard FrameFault)) (old new : ServiceParts) (asked : List Asked) → q ≢ place → ServesAll memory old place heard asked new → (connection_at new.connections q).stage ≡ (connection_at old.connections q).stage
unfolding Chain
all_others memory place q [] old new asked other serves = ap (λ (s : ServiceParts). (connection_at s.connections q).stage) serves.1
all_others memory place q (h ∷ heard) old new asked other (first, rest, between, both, one, more) = all_others memory place q heard between new rest other more ∙ serves_others memory place q old between h first other one

-- What is held

kept_shown : (stage : Stage) (decoder : Decoding) (left : List ℕ) → HoldsFor stage decoder left → ShowsHeld stage decoder (kept stage left)
kept_shown Finished decoder left holds = refl
kept_shown Greeting decoder left holds = holds
kept_shown (Serving thread) decoder left holds = holds

running_holds : (stage : Stage) (decoder : Decoding) (bytes : List ℕ) → has_finished stage ≡ false → ShowsHeld stage decoder bytes → Holds decoder bytes
running_holds Finished decoder bytes lives held = absurd cc
running_holds Greeting decoder bytes lives held = held
running_holds (Serving thread) decoder bytes lives held = held

finished_holds : (stage : Stage) (decoder : Decoding) (bytes : List ℕ) → stage ≡ Finished → ShowsHeld stage decoder bytes → bytes ≡ []
finished_holds Finished decoder bytes ended held = held
finished_holds Greeting decoder bytes ended held = absurd cc
finished_holds (Serving thread) decoder bytes ended held = absurd cc

module _ (old : RoomyExchange) (parts : ExchangeParts) (shows : Shows old parts) (long : length old.decoders ≡ length old.service.connections) (place : ℕ) (within : place < length old.service.connections) (service : RoomyService) (decoder : Decoding) (left : List ℕ)
    (others : (q : ℕ) → q ≢ place → stage_at service.connections q ≡ stage_at old.service.connections q)
    (holds : HoldsFor (connection_at (service_of service).connections place).stage decoder left)
  where
    abbrev now : List ℕ
    now = kept (connection_at (service_of service).connections place).stage left

    abbrev decoders : List Decoding
    decoders = slice_set old.decoders place decoder

    abbrev held : List (List ℕ)
    held = slice_set parts.held place now

    abbrev ShownAt : ℕ → Type 0
    ShownAt q = ShowsHeld (stage_at service.connections q) (decoder_at decoders q) (slice_index_or held q [])

    here : ShowsHeld (stage_at service.connections place) decoder now
    here = subst (λ s. ShowsHeld s decoder now) (service_stage service place) (kept_shown (connection_at (service_of service).connections place).stage decoder left holds)

    there : ShownAt place
    there =
        let mine = get_or-set_same old.decoders place decoder no_decoder (omega (arith, within, long)) in
        let bytes = get_or-set_same parts.held place now [] (omega (arith, within, long, shows.long)) in
        subst (λ d. ShowsHeld (stage_at service.connections place) d (slice_index_or held place [])) (sym mine) (subst (λ b. ShowsHeld (stage_at service.connections place) decoder b) (sym bytes) here)

    elsewhere : (q : ℕ) → q ≢ place → ShownAt q
    elsewhere q other =
        let theirs = get_or-set_other old.decoders place q decoder no_decoder other in
        let bytes = get_or-set_other parts.held place q now [] other in
        subst (λ s. ShowsHeld s (decoder_at decoders q) (slice_index_or held q [])) (sym (others q other)) (subst (λ d. ShowsHeld (stage_at old.service.connections q) d (slice_index_or held q [])) (sym theirs) (subst (λ b. ShowsHeld (stage_at old.service.connections q) (decoder_at old.decoders q) b) (sym bytes) (shows.held q)))

    at : (q : ℕ) (b : Bool) → (q == place) ≡ b → ShownAt q
    at q true e = subst ShownAt (sym (eqb-true q place e)) there
    at q false e = elsewhere q (eqb-false q place e)

    pub shows_connection : Shows (record { service = service; decoders = decoders }) (holding parts (service_of service) place left)
    shows_connection = record {
      service = refl;
      long = length-set parts.held place now ∙ (shows.long ∙ sym (length-set old.decoders place decoder));
      held = λ q. at q (q == place) refl;
    }

-- A piece

pub fed : (old : RoomyExchange) (place : ℕ) (piece : List ℕ) (service : RoomyService) (decoder : Decoding) → length old.decoders ≡ length old.service.connections → place < length old.service.connections → has_finished (stage_at old.service.connections place) ≡ false
    → ((bytes : List ℕ) → Holds (decoder_at old.decoders place) bytes → FeedsConnection (service_of old.service) place bytes piece (service_of service) decoder)
    → Happened old (Piece place piece) (record { service = service; decoders = slice_set old.decoders place decoder })
fed old place piece service decoder long within lives feeds parts shows =
    let connection = feeds (held_at parts place) (running_holds (stage_at old.service.connections place) _ _ lives (shows.held place)) in
    let left = left_in (stream_of Server (held_at parts place ++ piece)).end in (
      connection.asked,
      holding parts (service_of service) place left,
      record {
        heard = connection.heard;
        hears = connection.hears;
        service = service_of service;
        serves = subst (λ s. ServesAll MayLack s place connection.heard connection.asked (service_of service)) (sym shows.service) connection.serves;
        new_is = refl;
      },
      shows_connection old parts shows long place within service decoder left (λ q other. sym (service_stage service q) ∙ (all_others MayLack place q connection.heard (service_of old.service) (service_of service) connection.asked other connection.serves ∙ service_stage old.service q)) connection.holds,
    )

-- of a connection that has ended nothing is heard, and nothing is held
ended_holds : (old : RoomyExchange) (parts : ExchangeParts) (place : ℕ) (left : List ℕ) → Shows old parts → stage_at old.service.connections place ≡ Finished → parts ≡ holding parts parts.service place left
ended_holds old parts place left shows ended =
    let stage : (connection_at parts.service.connections place).stage ≡ Finished = ap (λ (s : ServiceParts). (connection_at s.connections place).stage) shows.service ∙ (service_stage old.service place ∙ ended) in
    let none = finished_holds (stage_at old.service.connections place) _ _ ended (shows.held place) in
    ap (λ h. record { service = parts.service; held = h }) (sym (set-get_or parts.held place []) ∙ ap (λ b. slice_set parts.held place b) (none ∙ ap (λ s. kept s left) (sym stage)))

ended_stage : (old : RoomyExchange) (parts : ExchangeParts) (place : ℕ) → Shows old parts → stage_at old.service.connections place ≡ Finished → (connection_at parts.service.connections place).stage ≡ Finished
ended_stage old parts place shows ended = ap (λ (s : ServiceParts). (connection_at s.connections place).stage) shows.service ∙ (service_stage old.service place ∙ ended)

pub not_fed : (old : RoomyExchange) (place : ℕ) (piece : List ℕ) → stage_at old.service.connections place ≡ Finished → Happened old (Piece place piece) old
not_fed old place piece ended parts shows =
    let said = stream_of Server (held_at parts place ++ piece) in (
      [],
      parts,
      record {
        heard = heard_in said;
        hears = inl refl;
        service = parts.service;
        serves = all_idle_again MayLack place (heard_in said) parts.service (ended_stage old parts place shows ended);
        new_is = ended_holds old parts place (left_in said.end) shows ended;
      },
      shows,
    )

-- The end of the input

pub closed : (old : RoomyExchange) (place : ℕ) (service : RoomyService) (decoder : Decoding) → length old.decoders ≡ length old.service.connections → place < length old.service.connections → has_finished (stage_at old.service.connections place) ≡ false
    → ((bytes : List ℕ) → Holds (decoder_at old.decoders place) bytes → ClosesConnection (service_of old.service) place bytes (service_of service) decoder)
    → Happened old (Finish place) (record { service = service; decoders = slice_set old.decoders place decoder })
closed old place service decoder long within lives closes parts shows =
    let connection = closes (held_at parts place) (running_holds (stage_at old.service.connections place) _ _ lives (shows.held place)) in (
      connection.asked,
      holding parts (service_of service) place [],
      record {
        service = service_of service;
        serves = subst (λ s. Serves MayLack s place (heard_at_end (held_at parts place)) connection.asked (service_of service)) (sym shows.service) connection.serves;
        new_is = refl;
      },
      shows_connection old parts shows long place within service decoder [] (λ q other. sym (service_stage service q) ∙ (serves_others MayLack place q (service_of old.service) (service_of service) (heard_at_end (held_at parts place)) connection.asked other connection.serves ∙ service_stage old.service q)) connection.holds,
    )

pub not_closed : (old : RoomyExchange) (place : ℕ) → stage_at old.service.connections place ≡ Finished → Happened old (Finish place) old
not_closed old place ended parts shows = (
  [],
  parts,
  record {
    service = parts.service;
    serves = idle_again MayLack place parts.service (heard_at_end (held_at parts place)) (ended_stage old parts place shows ended);
    new_is = ended_holds old parts place [] shows ended;
  },
  shows,
)

-- A command of nobody's

module _ (old : RoomyExchange) (given : Command) (service : RoomyService) (does : DoesAlone MayLack (service_of old.service) given (service_of service)) where
  same_stage : (q : ℕ) → stage_at service.connections q ≡ stage_at old.service.connections q
  same_stage q = sym (service_stage service q) ∙ (ap (λ (s : ServiceParts). (connection_at s.connections q).stage) does.1.2 ∙ (delivered_stage (service_of old.service).connections does.1.0 q ∙ service_stage old.service q))

  pub commanded : (parts : ExchangeParts) → Shows old parts → (asked : List Asked) × (after : ExchangeParts) × Commands MayLack parts given asked after × Shows (record { service = service; decoders = old.decoders }) after
  commanded parts shows = (
    record { command = given; answer = does.0 } ∷ [],
    record { service = service_of service; held = parts.held },
    record {
      answer = does.0;
      service = service_of service;
      answers = subst (λ s. Answers MayLack s given does.0 (service_of service)) (sym shows.service) does.1;
      asked_is = refl;
      new_is = refl;
    },
    record { service = refl; long = shows.long; held = λ q. subst (λ s. ShowsHeld s (decoder_at old.decoders q) (held_at parts q)) (sym (same_stage q)) (shows.held q) },
  )

-- One more connection

pushed : (connections : List ConnectionParts) (decoders : List Decoding) (held : List (List ℕ)) (connection : ConnectionParts) (decoder : Decoding) → length decoders ≡ length connections → length held ≡ length connections → connection.stage ≡ Greeting → Holds decoder []
    → ((q : ℕ) → ShowsHeld (connection_at connections q).stage (decoder_at decoders q) (slice_index_or held q []))
    → (q : ℕ) → ShowsHeld (connection_at (connections ++ connection ∷ []) q).stage (decoder_at (decoders ++ decoder ∷ []) q) (slice_index_or (held ++ [] ∷ []) q [])
pushed [] [] [] connection decoder a b stage holds before zero = subst (λ s. ShowsHeld s decoder []) (sym stage) holds
pushed [] [] [] connection decoder a b stage holds before (suc q) = refl
pushed (l ∷ connections) (d ∷ decoders) (h ∷ held) connection decoder a b stage holds before zero = before 0
pushed (l ∷ connections) (d ∷ decoders) (h ∷ held) connection decoder a b stage holds before (suc q) = pushed connections decoders held connection decoder (omega (arith, a)) (omega (arith, b)) stage holds (λ p. before (suc p)) q
pushed [] (d ∷ decoders) held connection decoder a b stage holds before q = absurd (omega (arith, a))
pushed [] [] (h ∷ held) connection decoder a b stage holds before q = absurd (omega (arith, b))
pushed (l ∷ connections) [] held connection decoder a b stage holds before q = absurd (omega (arith, a))
pushed (l ∷ connections) (d ∷ decoders) [] connection decoder a b stage holds before q = absurd (omega (arith, b))

pub connects : (old : RoomyExchange) (space : ℕ) (service : RoomyService) (decoder : Decoding) → length old.decoders ≡ length old.service.connections → service_of service ≡ with_connection space (service_of old.service) → Holds decoder [] → Happened old (Connect space) (record { service = service; decoders = old.decoders ++ decoder ∷ [] })
connects old space service decoder long is holds parts shows = (
  [],
  connected space parts,
  (refl, refl),
  record {
    service = ap (with_connection space) shows.service ∙ sym is;
    long = length-append parts.held ([] ∷ []) ∙ (ap (λ n. n + 1) shows.long ∙ sym (length-append old.decoders (decoder ∷ [])));
    held = λ q. subst (λ s. ShowsHeld s (decoder_at (old.decoders ++ decoder ∷ []) q) (slice_index_or (parts.held ++ [] ∷ []) q [])) (sym (ap (λ (x : ServiceParts). (connection_at x.connections q).stage) is) ∙ service_stage service q) (pushed (service_of old.service).connections old.decoders parts.held _ decoder (long ∙ sym connections) (shows.long ∙ (long ∙ sym connections)) refl holds (λ p. subst (λ s. ShowsHeld s (decoder_at old.decoders p) (held_at parts p)) (sym (service_stage old.service p)) (shows.held p)) q);
  },
)
  where
    connections : length (service_of old.service).connections ≡ length old.service.connections
    connections = length-map old.service.connections (λ (s : RoomyConnection). s.connection)

-- Bytes that went out

pub shows_less : (old : RoomyExchange) (service : RoomyService) (place count : ℕ) → service_of service ≡ without_bytes place count (service_of old.service) → (parts : ExchangeParts) → Shows old parts → Shows (record { service = service; decoders = old.decoders }) (record parts { service = without_bytes place count parts.service })
shows_less old service place count is parts shows = record {
  service = ap (without_bytes place count) shows.service ∙ sym is;
  long = shows.long;
  held = λ q. subst (λ s. ShowsHeld s (decoder_at old.decoders q) (held_at parts q)) (sym (sym (service_stage service q) ∙ (ap (λ (x : ServiceParts). (connection_at x.connections q).stage) is ∙ (set_stage (service_of old.service).connections place q _ refl ∙ service_stage old.service q)))) (shows.held q);
}

-- What is true of every exchange stays true

pub still_exchange : (old new : RoomyExchange) (event : Event) → IsExchange old → Ready new.service → length new.decoders ≡ length new.service.connections → Happened old event new → IsExchange new
still_exchange old new event is ready long happened =
    let h = happened is.parts is.shows in
    record { ready = ready; long = long; parts = h.1; shows = h.3 }

-- The same, as the methods see it

at_decoder : (decoders : List Decoding) (place : ℕ) (read : Decoding) → place < length decoders → read ≡ slice_index_or decoders place read → decoder_at decoders place ≡ read
at_decoder [] place read within is = absurd (omega (arith, within))
at_decoder (d ∷ decoders) zero read within is = sym is
at_decoder (d ∷ decoders) (suc place) read within is = at_decoder decoders place read (omega (arith, within)) is

module _ (old : RoomyExchange) (connection : ℕ) (service : RoomyService) (decoder read : Decoding) (is : IsExchange old) (some : connection ≢ 0) (few : connection ≤ length old.service.connections)
    (lives : has_finished (stage_at old.service.connections (connection - 1)) ≡ false)
    (there : read ≡ slice_index_or old.decoders (connection - 1) read)
  where
    abbrev after : RoomyExchange
    after = record { service = service; decoders = slice_set old.decoders (connection - 1) decoder }

    within : connection - 1 < length old.service.connections
    within = omega (arith, some, few)

    reads : decoder_at old.decoders (connection - 1) ≡ read
    reads = at_decoder old.decoders (connection - 1) read (omega (arith, within, is.long)) there

    pub read_holds : (bytes : List ℕ) × Holds read bytes
    read_holds = (held_at is.parts (connection - 1), subst (λ d. Holds d (held_at is.parts (connection - 1))) reads (running_holds (stage_at old.service.connections (connection - 1)) _ _ lives (is.shows.held (connection - 1))))

    long_after : length service.connections ≡ length old.service.connections → length after.decoders ≡ length service.connections
    long_after same = length-set old.decoders (connection - 1) decoder ∙ (is.long ∙ sym same)

    module _ (piece : List ℕ) (feeds : (bytes : List ℕ) → Holds read bytes → FeedsConnection (service_of old.service) (connection - 1) bytes piece (service_of service) decoder) where
      feeds_it : Happened old (Piece (connection - 1) piece) after
      feeds_it = fed old (connection - 1) piece service decoder is.long within lives (λ bytes holds. feeds bytes (subst (λ d. Holds d bytes) reads holds))

      pub feed_happens : (now : RoomyExchange) (place : ℕ) → old ≡ now → connection ≡ place + 1 → Happened now (Piece place piece) after
      feed_happens now place same at = subst (λ n. Happened n (Piece place piece) after) same (subst (λ p. Happened old (Piece p piece) after) (omega (arith, at)) feeds_it)

      pub feed_keeps : StaysReady old.service service → IsExchange after
      feed_keeps stays = still_exchange old after (Piece (connection - 1) piece) is stays.ready (long_after stays.same) feeds_it

    module _ (closes : (bytes : List ℕ) → Holds read bytes → ClosesConnection (service_of old.service) (connection - 1) bytes (service_of service) decoder) where
      closes_it : Happened old (Finish (connection - 1)) after
      closes_it = closed old (connection - 1) service decoder is.long within lives (λ bytes holds. closes bytes (subst (λ d. Holds d bytes) reads holds))

      pub end_happens : (now : RoomyExchange) (place : ℕ) → old ≡ now → connection ≡ place + 1 → Happened now (Finish place) after
      end_happens now place same at = subst (λ n. Happened n (Finish place) after) same (subst (λ p. Happened old (Finish p) after) (omega (arith, at)) closes_it)

      pub end_keeps : StaysReady old.service service → IsExchange after
      end_keeps stays = still_exchange old after (Finish (connection - 1)) is stays.ready (long_after stays.same) closes_it

-- a connection that was never given, or has ended
pub skipped_stage : (now : RoomyExchange) (connection place : ℕ) → connection ≡ place + 1 → length now.service.connections < connection → stage_at now.service.connections place ≡ Finished
skipped_stage now connection place at past = past_stage now.service.connections place (omega (arith, at, past))

pub ended_there : (connections : List RoomyConnection) (connection place : ℕ) → connection ≡ place + 1 → has_finished (stage_at connections (connection - 1)) ≡ true → stage_at connections place ≡ Finished
ended_there connections connection place at ended = subst (λ p. stage_at connections p ≡ Finished) (omega (arith, at)) (finished_is (stage_at connections (connection - 1)) ended)

pub commands_keep : (old : RoomyExchange) (service : RoomyService) (event : Event) → IsExchange old → StaysReady old.service service → Happened old event (record { service = service; decoders = old.decoders }) → IsExchange (record { service = service; decoders = old.decoders })
commands_keep old service event is stays happened = still_exchange old _ event is stays.ready (is.long ∙ sym stays.same) happened

pub outputs_keep : (old : RoomyExchange) (service : RoomyService) (place count : ℕ) → IsExchange old → StaysReady old.service service → service_of service ≡ without_bytes place count (service_of old.service) → IsExchange (record { service = service; decoders = old.decoders })
outputs_keep old service place count is stays left = record { ready = stays.ready; long = is.long ∙ sym stays.same; parts = record is.parts { service = without_bytes place count is.parts.service }; shows = shows_less old service place count left is.parts is.shows }

module _ (old : RoomyExchange) (space : ℕ) (service : RoomyService) (decoder : Decoding) (decoders : List Decoding) (is : IsExchange old) (same : service_of service ≡ with_connection space (service_of old.service)) (holds : Holds decoder []) (more : decoders ≡ old.decoders ++ decoder ∷ []) where
  pub connects_by : Happened old (Connect space) (record { service = service; decoders = decoders })
  connects_by = subst (λ d. Happened old (Connect space) (record { service = service; decoders = d })) (sym more) (connects old space service decoder is.long same holds)

  pub connected_keeps : Ready service → length service.connections ≡ length old.service.connections + 1 → IsExchange (record { service = service; decoders = decoders })
  connected_keeps ready count = still_exchange old _ (Connect space) is ready (ap length more ∙ (length-append old.decoders (decoder ∷ []) ∙ (ap (λ n. n + 1) is.long ∙ sym count))) connects_by

-- an exchange without connections
pub empty_shows : (service : RoomyService) (decoders : List Decoding) (entries_limit calls_limit : ℕ) → service_of service ≡ record { kernel = first_kernel entries_limit calls_limit; connections = [] } → service.connections ≡ [] → decoders ≡ [] → Shows (record { service = service; decoders = decoders }) (empty_exchange entries_limit calls_limit)
empty_shows service decoders entries_limit calls_limit same none empty = record {
  service = sym same;
  long = sym (ap length empty);
  held = λ q. subst (λ s. ShowsHeld (stage_at s q) (decoder_at decoders q) []) (sym none) refl;
}

pub empty_is : (service : RoomyService) (decoders : List Decoding) (entries_limit calls_limit : ℕ) → service_of service ≡ record { kernel = first_kernel entries_limit calls_limit; connections = [] } → service.connections ≡ [] → decoders ≡ [] → Ready service → IsExchange (record { service = service; decoders = decoders })
empty_is service decoders entries_limit calls_limit same none empty ready = record {
  ready = ready;
  long = ap length empty ∙ sym (ap length none);
  parts = empty_exchange entries_limit calls_limit;
  shows = empty_shows service decoders entries_limit calls_limit same none empty;
}

pub output_shows : (old now : RoomyExchange) (connection : ℕ) (service : RoomyService) (count : ℕ) → old ≡ now → service_of service ≡ without_bytes (connection - 1) count (service_of old.service) → (place : ℕ) (parts : ExchangeParts) → connection ≡ place + 1 → Shows now parts → Shows (record { service = service; decoders = old.decoders }) (record parts { service = without_bytes place count parts.service })
output_shows old now connection service count same left place parts at shows =
    let here : connection - 1 ≡ place = omega (arith, at) in
    shows_less old service place count (subst (λ p. service_of service ≡ without_bytes p count (service_of old.service)) here left) parts (subst (λ n. Shows n parts) (sym same) shows)
