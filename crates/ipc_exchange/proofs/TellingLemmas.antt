-- What is told when a connection is served.
use Rattle.std.proofs.Common.{false, ◌≡◌, ℕ, ◌+◌, ◌<◌, ◌≤◌, List, [], ◌∷◌, ◌++◌, drop, length, refl, sym, ap, ap₂, subst, ◌∙◌, Option, Some, None, inl, inr, arith, zero, suc}
use Rattle.std.specs.Prelude.{slice_set, slice_index_or, Result, Ok, Err, IfSome}
use Rattle.std.proofs.lemmas.List.{length-set, map-set, set-get_or}
use Rattle.ipc_frame.specs.declared.version.WireVersion.{WireVersion}
use Rattle.ipc_frame.specs.declared.fault.FrameFault.{FrameFault}
use Rattle.ipc_core.specs.Again.{MayObeyAgain, lacks_entries}
use Rattle.ipc_core.specs.KernelParts.{KernelParts}
use Rattle.ipc_core.specs.Laws.{IsSound}
use Rattle.ipc_core.specs.Obeying.{Does as KernelDoes, MayObey, Obeys, ObeysOr, cause_of}
use Rattle.ipc_core.specs.declared.command.Answer.{Answer}
use Rattle.ipc_core.specs.declared.command.Answer.TheVariants as answer
use Rattle.ipc_core.specs.declared.command.Command.{Command}
use Rattle.ipc_core.specs.declared.command.Command.TheVariants.{Open, Enter, Exreg, Broke, At, Advance, Take}
use Rattle.ipc_core.specs.declared.refusal.Refusal.{Refusal}
use Rattle.ipc_connection.specs.declared.heard.Heard.{Heard}
use Rattle.ipc_connection.specs.declared.heard.Heard.TheVariants as heard
use Rattle.ipc_connection.specs.Asking.{asks, command_of}
use Rattle.ipc_connection.specs.Replying.{next_stage, thread_left, told_of}
use Rattle.ipc_connection.specs.declared.asking.Reaction.{Reaction}
use Rattle.ipc_connection.specs.declared.asking.Reaction.TheVariants.{Ask}
use Rattle.ipc_connection.specs.declared.asking.Request.{Request}
use Rattle.ipc_connection.specs.declared.asking.Request.TheVariants as request
use Rattle.ipc_connection.specs.declared.stage.Stage.{Stage}
use Rattle.ipc_connection.specs.declared.stage.Stage.TheVariants.{Greeting, Serving, Finished}
use Rattle.ipc_connection.specs.declared.replying.Told.{Told}
use Rattle.ipc_connection.specs.declared.replying.Told.TheVariants as tells
use Rattle.ipc_exchange.specs.Service.{ConnectionParts, at_rest, connection_at, delivered, nobody, told_connection, without_bytes}
use Rattle.ipc_exchange.specs.Serving.{Asked, Does, DoesAlone, Leaves, MayLack, Serves, ServesBy, Tells}
use Rattle.ipc_exchange.specs.Rooms.{CanDo, CanReact, CanServe, CanTell, HasRoom, IsPlaced, MayGet, NoneServes, Ready, RoomyConnection, RoomyService, StaysReady, SuitsReaction, SuitsTold, WantsRoom, connections_of, roomless, roomy_at, service_of, stage_at, table_told}
use Rattle.ipc_exchange.proofs.ReadyLemmas.{ample, ended, left_alone, obeyed_ready, opened_fresh, room_ready, roomier, told_ready}
use Rattle.ipc_exchange.proofs.RestedLemmas.{rested_alone, rested_obeys}

pub at_roomy : (connections : List RoomyConnection) (place : ℕ) (roomy : RoomyConnection) → place < length connections → roomy ≡ slice_index_or connections place roomy → roomy_at connections place ≡ roomy
at_roomy [] place roomy h e = absurd (omega arith)
at_roomy (s ∷ connections) zero roomy h e = sym e
at_roomy (s ∷ connections) (suc place) roomy h e = at_roomy connections place roomy (omega arith) e

pub roomy_self : (connections : List RoomyConnection) (place : ℕ) → place < length connections → roomy_at connections place ≡ slice_index_or connections place (roomy_at connections place)
roomy_self [] place h = absurd (omega arith)
roomy_self (s ∷ connections) zero h = refl
roomy_self (s ∷ connections) (suc place) h = roomy_self connections place (omega arith)

-- a request suits its connection
asks_suits : (kernel : KernelParts) (roomy : RoomyConnection) (stage : Stage) (said : Result Heard FrameFault) → roomy.connection.stage ≡ stage → HasRoom kernel roomy → (WantsRoom said → 3 ≤ roomy.free) → SuitsReaction stage roomy.free (asks stage said)
unfolding asks
asks_suits kernel roomy Greeting (Err fault) e has room = has.greeting e
asks_suits kernel roomy Greeting (Ok (heard.Hello number version)) e has room = room tt
asks_suits kernel roomy Greeting (Ok (heard.Call call)) e has room = has.greeting e
asks_suits kernel roomy Greeting (Ok (heard.Exreg target control)) e has room = has.greeting e
asks_suits kernel roomy Greeting (Ok heard.Bye) e has room = has.greeting e
asks_suits kernel roomy (Serving thread) (Err fault) e has room = has.serving thread e
asks_suits kernel roomy (Serving thread) (Ok (heard.Hello number version)) e has room = has.serving thread e
asks_suits kernel roomy (Serving thread) (Ok (heard.Call call)) e has room = (room tt, refl)
asks_suits kernel roomy (Serving thread) (Ok (heard.Exreg target control)) e has room = room tt
asks_suits kernel roomy (Serving thread) (Ok heard.Bye) e has room = has.serving thread e
asks_suits kernel roomy Finished said e has room = tt

pub can_react : (s : RoomyService) (place : ℕ) (said : Result Heard FrameFault) (stage : Stage) (asked : Reaction) → CanServe s place said → stage_at s.connections place ≡ stage → asked ≡ asks stage said → CanReact s place asked
can_react s place said stage asked can e is = record {
  within = can.within;
  ready = can.ready;
  suits = subst (λ r. SuitsReaction (stage_at s.connections place) (roomy_at s.connections place).free r) (sym (is ∙ ap (λ t. asks t said) (sym e))) (asks_suits s.kernel (roomy_at s.connections place) (stage_at s.connections place) said refl (can.ready.room place) can.room);
}

-- what ends a connection can be told
pub can_end : (s : RoomyService) (place : ℕ) (told : Told) → place < length s.connections → Ready s → SuitsTold (roomy_at s.connections place).free told → MayGet s.kernel s.connections place told → CanTell s place told
can_end s place told within ready room fresh = record { within = within; ready = record { sound = ready.sound; placed = ready.placed; table = ready.table; room = λ q other. ready.room q }; room = room; fresh = fresh }

-- a thread that an answer tells of was opened
fresh_told : (version : WireVersion) (moment : ℕ) (s : RoomyService) (command : Command) (said : Answer) (new : KernelParts) (place : ℕ) → Ready s → IsSound new → MayObey s.kernel command said new → MayGet new s.connections place (told_of version moment said)
unfolding Obeys KernelDoes
fresh_told version moment s command (answer.Opened thread) new place ready after obeys = at_first command obeys obeys
  where
    go : (cause : Option Refusal) (command : Command) → MayObey s.kernel command (answer.Opened thread) new → ObeysOr cause s.kernel command (answer.Opened thread) new → MayGet new s.connections place (told_of version moment (answer.Opened thread))
    go (Some refusal) command all refused = let e = refused.0 in absurd cc
    go None (Open number space) all does = opened_fresh s number space thread new place ready after all
    go None (Enter caller call) all does = absurd does
    go None (Exreg caller target control) all does = absurd does
    go None (Broke broken) all does = absurd does
    go None (At reading) all does = absurd does
    go None Advance all does = absurd does
    go None (Take taker) all does = absurd does

    at_first : (command : Command) → MayObey s.kernel command (answer.Opened thread) new → MayObey s.kernel command (answer.Opened thread) new → MayGet new s.connections place (told_of version moment (answer.Opened thread))
    at_first command all (inr lacks) = let e = lacks.answer_is in absurd cc
    at_first command all (inl obeys) = go (cause_of s.kernel command) command all obeys
fresh_told version moment s command (answer.Entered number) new place ready after obeys = tt
fresh_told version moment s command (answer.Exchanged exchanged) new place ready after obeys = tt
fresh_told version moment s command (answer.Refused refusal) new place ready after obeys = tt
fresh_told version moment s command answer.Done new place ready after obeys = tt
fresh_told version moment s command (answer.Advanced advance) new place ready after obeys = tt
fresh_told version moment s command (answer.Taken outcome) new place ready after obeys = tt

suits_any : (free : ℕ) (told : Told) → 3 ≤ free → SuitsTold free told
suits_any free (tells.Opened thread version) three = three
suits_any free tells.Entered three = three
suits_any free (tells.Exchanged result control code moment) three = three
suits_any free (tells.Refused refusal) three = three
suits_any free (tells.Faulted class number) three = omega (arith, three)
suits_any free tells.Left three = omega (arith, three)

suits_one : (free : ℕ) (told : Told) → SuitsTold free told → 1 ≤ free
suits_one free (tells.Opened thread version) room = omega (arith, room)
suits_one free tells.Entered room = omega (arith, room)
suits_one free (tells.Exchanged result control code moment) room = omega (arith, room)
suits_one free (tells.Refused refusal) room = omega (arith, room)
suits_one free (tells.Faulted class number) room = room
suits_one free tells.Left room = room

pub can_push : (s : RoomyService) (place : ℕ) (told : Told) (roomy : RoomyConnection) (connections : List RoomyConnection) → CanTell s place told → connections ≡ s.connections → roomy ≡ slice_index_or connections place roomy → 0 < roomy.free
can_push s place told roomy connections can same there = let one = suits_one _ told can.room in omega (arith, one, ap (λ (l : RoomyConnection). l.free) (at_roomy s.connections place roomy can.within (there ∙ ap (λ l. slice_index_or l place roomy) same)))

pub told_within : (s now : RoomyService) (place : ℕ) (told : Told) → CanTell s place told → now ≡ record s { table = table_told told place s.table } → place < length now.connections
told_within s now place told can placed = rw placed can.within

pub told_free : (s now : RoomyService) (place : ℕ) (told : Told) → CanTell s place told → now ≡ record s { table = table_told told place s.table } → 0 < (roomy_at now.connections place).free
told_free s now place told can placed = let one = suits_one _ told can.room in rw placed one

-- a connection whose request the kernel obeyed can be told the answer
pub can_tell : (version : WireVersion) (old middle : RoomyService) (place : ℕ) (command : Command) (told : Told) → CanDo old place command → IsSound middle.kernel → ((said : Answer) × MayObeyAgain old.kernel.held.mark old.kernel command said middle.kernel × (told ≡ told_of version middle.kernel.moment said)) → middle.connections ≡ old.connections → middle.table ≡ old.table → CanTell middle place told
can_tell version old middle place command told can after obeyed connections table =
    let there : record old { kernel = middle.kernel } ≡ middle = ap₂ (λ s t. record { kernel = middle.kernel; connections = s; table = t }) (sym connections) (sym table) in
    let again = obeyed.1 in
    let roomy : RoomyService = record old { kernel = again.roomy } in
    let ready : Ready roomy = room_ready old.kernel.held.mark old command again.roomy again.makes_room can.ready in
    let fresh : MayGet middle.kernel old.connections place told = subst (MayGet middle.kernel old.connections place) (sym obeyed.2) (fresh_told version middle.kernel.moment roomy command obeyed.0 middle.kernel place ready after again.obeys) in
    subst (λ s. CanTell s place told) there (record {
      within = can.within;
      ready = obeyed_ready roomy command obeyed.0 middle.kernel place ready can.suits after again.obeys;
      room = suits_any _ told can.room;
      fresh = fresh;
    })

pub connection_there : (connections : List RoomyConnection) (place : ℕ) → connection_at (connections_of connections) place ≡ (roomy_at connections place).connection
connection_there [] place = refl
connection_there (s ∷ connections) zero = refl
connection_there (s ∷ connections) (suc place) = connection_there connections place

pub told_roomy : (connections : List RoomyConnection) (place : ℕ) (roomy new : RoomyConnection) (told : Told) → place < length connections → roomy ≡ slice_index_or connections place roomy → new.connection ≡ told_connection told roomy.connection → connections_of (slice_set connections place new) ≡ slice_set (connections_of connections) place (told_connection told (connection_at (connections_of connections) place))
told_roomy connections place roomy new told h e is =
    map-set (λ (s : RoomyConnection). s.connection) connections place new ∙ ap (λ (connection : ConnectionParts). slice_set (connections_of connections) place connection) (is ∙ ap (told_connection told) (sym (connection_there connections place ∙ ap (λ (s : RoomyConnection). s.connection) (at_roomy connections place roomy h e))))

-- all that is told when something is told
pub tells_by : (old told_now left last : RoomyService) (place : ℕ) (told : Told) → told_now.kernel ≡ old.kernel → connections_of told_now.connections ≡ slice_set (connections_of old.connections) place (told_connection told (connection_at (connections_of old.connections) place)) → ((asked : List Asked) × Leaves MayLack (at_rest told_now.kernel) (thread_left (connection_at (connections_of old.connections) place).stage (next_stage (connection_at (connections_of old.connections) place).stage told)) asked (at_rest left.kernel)) → left.connections ≡ told_now.connections → service_of last ≡ delivered (at_rest left.kernel) (connections_of left.connections) → (asked : List Asked) × Tells MayLack (service_of old) place told asked (service_of last)
tells_by old told_now left last place told kernel told_all leaves kept is = (
  leaves.0,
  record {
    kernel = at_rest left.kernel;
    leaves = subst (λ k. Leaves MayLack (at_rest k) (thread_left (connection_at (connections_of old.connections) place).stage (next_stage (connection_at (connections_of old.connections) place).stage told)) leaves.0 (at_rest left.kernel)) kernel leaves.1;
    new_is = is ∙ ap (λ (l : List ConnectionParts). delivered (at_rest left.kernel) l) (ap connections_of kept ∙ told_all);
  },
)

-- a command that is obeyed, and told
pub does_by : (version : WireVersion) (old middle last : RoomyService) (place : ℕ) (given : Command) (told : Told) → ((said : Answer) × MayObeyAgain old.kernel.held.mark old.kernel given said middle.kernel × (told ≡ told_of version middle.kernel.moment said)) → middle.connections ≡ old.connections → ((asked : List Asked) × Tells MayLack (service_of middle) place told asked (service_of last)) → (asked : List Asked) × Does MayLack (service_of old) place version given asked (service_of last)
does_by version old middle last place given told obeyed connections tells =
    let here : Tells MayLack (record { kernel = at_rest middle.kernel; connections = connections_of old.connections }) place told tells.0 (service_of last) = subst (λ (s : List RoomyConnection). Tells MayLack (record { kernel = at_rest middle.kernel; connections = connections_of s }) place told tells.0 (service_of last)) connections tells.1 in (
      record { command = given; answer = obeyed.0 } ∷ tells.0,
      record {
        answer = obeyed.0;
        between = at_rest middle.kernel;
        obeys = rested_obeys old.kernel given obeyed.0 middle.kernel obeyed.1;
        rest = tells.0;
        asked_is = refl;
        tells = subst (λ (t : Told). Tells MayLack (record { kernel = at_rest middle.kernel; connections = connections_of old.connections }) place t tells.0 (service_of last)) obeyed.2 here;
      },
    )

-- what was heard, served as the stage of its connection asks
pub serves_by : (old last : RoomyService) (place : ℕ) (said : Result Heard FrameFault) (reaction : Reaction) → reaction ≡ asks (stage_at old.connections place) said → ((asked : List Asked) × ServesBy MayLack (service_of old) place reaction asked (service_of last)) → (asked : List Asked) × Serves MayLack (service_of old) place said asked (service_of last)
unfolding Serves
serves_by old last place said reaction is serves =
    let same : reaction ≡ asks (connection_at (connections_of old.connections) place).stage said = is ∙ ap (λ (l : ConnectionParts). asks l.stage said) (sym (connection_there old.connections place)) in
    (serves.0, subst (λ r. ServesBy MayLack (service_of old) place r serves.0 (service_of last)) same serves.1)

-- the connection in a place is told something, and the table names the connection of a thread that
-- was opened
module _ (s now : RoomyService) (place : ℕ) (told : Told) (read new : RoomyConnection)
    (can : CanTell s place told) (placed : now ≡ record s { table = table_told told place s.table })
    (there : read ≡ slice_index_or now.connections place read)
    (connection : new.connection ≡ told_connection told read.connection) (free : read.free ≤ new.free + 1)
  where
    connections_are : now.connections ≡ s.connections
    connections_are = ap (λ (s : RoomyService). s.connections) placed

    here : roomy_at s.connections place ≡ read
    here = at_roomy s.connections place read can.within (there ∙ ap (λ connections. slice_index_or connections place read) connections_are)

    pub told_connections : connections_of (slice_set now.connections place new) ≡ slice_set (connections_of s.connections) place (told_connection told (connection_at (connections_of s.connections) place))
    told_connections = ap (λ connections. connections_of (slice_set connections place new)) connections_are ∙ told_roomy s.connections place read new told can.within (there ∙ ap (λ connections. slice_index_or connections place read) connections_are) connection

    stage_now : new.connection.stage ≡ next_stage read.connection.stage told
    stage_now = ap (λ (l : ConnectionParts). l.stage) connection

    was : read.connection.stage ≡ stage_at s.connections place
    was = ap (λ (l : RoomyConnection). l.connection.stage) (sym here)

    enough : HasRoom s.kernel new
    unfolding next_stage
    enough = go told can.room stage_now
      where
        kept : 3 ≤ (roomy_at s.connections place).free → HasRoom s.kernel new
        kept three = ample s.kernel new (omega (arith, three, ap (λ (l : RoomyConnection). l.free) here, free))

        go : (t : Told) → SuitsTold (roomy_at s.connections place).free t → new.connection.stage ≡ next_stage read.connection.stage t → HasRoom s.kernel new
        go (tells.Opened thread version) room e = kept room
        go tells.Entered room e = kept room
        go (tells.Exchanged result control code moment) room e = kept room
        go (tells.Refused refusal) room e = kept room
        go (tells.Faulted class number) room e = ended s.kernel new e
        go tells.Left room e = ended s.kernel new e

    pub told_stays : StaysReady s (record now { connections = slice_set now.connections place new })
    told_stays = subst (λ n. StaysReady s (record n { connections = slice_set n.connections place new })) (sym placed) (record {
      ready = told_ready s place new can.within told read.connection.stage was stage_now enough can.ready can.fresh;
      same = length-set s.connections place new;
    })

    pub told_alone : (thread : ℕ) → thread_left read.connection.stage (next_stage read.connection.stage told) ≡ Some thread → NoneServes (slice_set now.connections place new) thread
    told_alone thread left = subst (λ connections. NoneServes (slice_set connections place new) thread) (sym connections_are) (left_alone s place new can.within told read.connection.stage was stage_now enough can.ready can.fresh thread left)

    pub told_alone_by : (before after : Stage) (left : Option ℕ) → left ≡ thread_left before after → after ≡ next_stage before told → before ≡ read.connection.stage → IfSome left (λ thread. NoneServes (slice_set now.connections place new) thread)
    told_alone_by before after left is next same = go left refl
      where
        whole : left ≡ thread_left read.connection.stage (next_stage read.connection.stage told)
        whole = is ∙ (ap (thread_left before) next ∙ ap (λ b. thread_left b (next_stage b told)) same)

        go : (o : Option ℕ) → left ≡ o → IfSome o (λ thread. NoneServes (slice_set now.connections place new) thread)
        go None e = tt
        go (Some thread) e = told_alone thread (sym whole ∙ e)

-- the stage that was read
pub stage_read : (connections items : List RoomyConnection) (place : ℕ) (roomy : RoomyConnection) (stage : Stage) → place < length connections → items ≡ connections → roomy ≡ slice_index_or items place roomy → stage ≡ roomy.connection.stage → stage_at connections place ≡ stage
stage_read connections items place roomy stage within same there is = ap (λ (l : RoomyConnection). l.connection.stage) (at_roomy connections place roomy within (there ∙ ap (λ l. slice_index_or l place roomy) same)) ∙ sym is

-- a connection that may ask can give the kernel the command
pub do_asked : (s : RoomyService) (place space : ℕ) (asked : Request) → CanReact s place (Ask asked) → CanDo s place (command_of asked space)
do_asked s place space (request.Open number version) can = record { within = can.within; ready = can.ready; room = can.suits; suits = tt }
do_asked s place space (request.Enter thread call) can = record { within = can.within; ready = can.ready; room = can.suits.0; suits = can.suits.1 }
do_asked s place space (request.Exreg thread target control) can = record { within = can.within; ready = can.ready; room = can.suits; suits = tt }

-- a command of nobody's
pub does_alone : (s middle last : RoomyService) (command : Command) (said : Answer) → lacks_entries s.kernel command ≡ false → MayObey s.kernel command said middle.kernel → middle.connections ≡ s.connections → service_of last ≡ delivered (at_rest middle.kernel) (connections_of middle.connections) → DoesAlone MayLack (service_of s) command (service_of last)
does_alone s middle last command said other obeys connections is = (said, (at_rest middle.kernel, rested_alone s.kernel command said middle.kernel other obeys, is ∙ ap (λ l. delivered (at_rest middle.kernel) (connections_of l)) connections))

-- a connection that changes in its bytes alone, with no less room
module _ (s : RoomyService) (place : ℕ) (read new : RoomyConnection) (within : place < length s.connections) (there : read ≡ slice_index_or s.connections place read) where
  pub same_connections : new.connection ≡ read.connection → service_of (record s { connections = slice_set s.connections place new }) ≡ service_of s
  same_connections same = ap (λ l. record { kernel = at_rest s.kernel; connections = l }) (map-set (λ (l : RoomyConnection). l.connection) s.connections place new ∙ (ap (λ (l : ConnectionParts). slice_set (connections_of s.connections) place l) (same ∙ sym (connection_there s.connections place ∙ ap (λ (l : RoomyConnection). l.connection) (at_roomy s.connections place read within there))) ∙ set-get_or (connections_of s.connections) place nobody))

  pub less_bytes : (count : ℕ) → new.connection ≡ record read.connection { out = drop count read.connection.out } → service_of (record s { connections = slice_set s.connections place new }) ≡ without_bytes place count (service_of s)
  less_bytes count same = ap (λ l. record { kernel = at_rest s.kernel; connections = l }) (map-set (λ (l : RoomyConnection). l.connection) s.connections place new ∙ ap (λ (l : ConnectionParts). slice_set (connections_of s.connections) place l) (same ∙ ap (λ (l : ConnectionParts). record l { out = drop count l.out }) (sym (connection_there s.connections place ∙ ap (λ (l : RoomyConnection). l.connection) (at_roomy s.connections place read within there)))))

  pub more_room : new.connection.stage ≡ read.connection.stage → read.free ≤ new.free → Ready s → StaysReady s (record s { connections = slice_set s.connections place new })
  more_room same more ready =
      let here = at_roomy s.connections place read within there in
      record { ready = roomier s place new within (same ∙ ap (λ (l : RoomyConnection). l.connection.stage) (sym here)) (omega (arith, ap (λ (l : RoomyConnection). l.free) here, more)) ready; same = length-set s.connections place new }

-- one more connection
pub connect_ready : (s : RoomyService) (roomy : RoomyConnection) (connections : List RoomyConnection) → Ready s → connections ≡ s.connections ++ roomy ∷ [] → roomy.connection.stage ≡ Greeting → 1 ≤ roomy.free → Ready (record s { connections = connections })
connect_ready s roomy connections ready is stage free = subst (λ l. Ready (record s { connections = l })) (sym is) (record {
  sound = ready.sound;
  placed = pushed s.connections (λ q (l : RoomyConnection). (t : ℕ) → l.connection.stage ≡ Serving t → IsPlaced s.kernel s.table q t) (λ q t e. ready.placed q t e) (λ t e. (let no = sym stage ∙ e in absurd cc)) (λ q t e. absurd cc);
  table = ready.table;
  room = pushed s.connections (λ q l. HasRoom s.kernel l) ready.room (record { greeting = λ e. free; serving = λ t e. (let no = sym stage ∙ e in absurd cc); busy = λ t e busy. (let no = sym stage ∙ e in absurd cc) }) (λ q. ended s.kernel roomless refl);
})
  where
    pushed : (connections : List RoomyConnection) (P : ℕ → RoomyConnection → Type 0) → ((q : ℕ) → P q (roomy_at connections q)) → P (length connections) roomy → ((q : ℕ) → P q roomless) → (q : ℕ) → P q (roomy_at (connections ++ roomy ∷ []) q)
    pushed [] P each last none zero = last
    pushed [] P each last none (suc q) = none (suc q)
    pushed (l ∷ connections) P each last none zero = each zero
    pushed (l ∷ connections) P each last none (suc q) = pushed connections (λ k. P (suc k)) (λ k. each (suc k)) last (λ k. none (suc k)) q
