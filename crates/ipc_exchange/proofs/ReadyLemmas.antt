-- A service stays ready for the next command.
use Rattle.std.proofs.Common.{◌≡◌, ◌≢◌, ℕ, suc, ◌<◌, ◌≤◌, Bool, true, false, ◌==◌, eqb-true, eq-eqb, List, length, refl, sym, ap, subst, ◌∙◌, Some, arith}
use Rattle.std.specs.Prelude.{slice_set, slice_index_or, if◌then◌else◌}
use Rattle.std.proofs.lemmas.Bool.{false_from_ne_true}
use Rattle.std.proofs.lemmas.List.{get_or-set_same, get_or-set_other, length-set}
use Rattle.ipc_words.specs.ThreadId.{number_of}
use Rattle.ipc_laws.proofs.Tests.{not_both}
use Rattle.ipc_history.specs.HistoryParts.{HeldParts}
use Rattle.ipc_history.specs.Threads.{is_live}
use Rattle.ipc_core.specs.Again.{MakesRoom}
use Rattle.ipc_core.specs.KernelParts.{KernelParts}
use Rattle.ipc_core.specs.Laws.{IsSound}
use Rattle.ipc_core.specs.Obeying.{MayObey}
use Rattle.ipc_core.specs.Outcomes.{has_untaken, is_busy}
use Rattle.ipc_core.specs.declared.command.Answer.{Answer}
use Rattle.ipc_core.specs.declared.command.Answer.TheVariants.{Opened}
use Rattle.ipc_core.specs.declared.command.Command.{Command}
use Rattle.ipc_core.specs.declared.command.Command.TheVariants.{Open, Enter, Exreg, Broke, At, Advance, Take}
use Rattle.ipc_connection.specs.Replying.{ends_by, next_stage, thread_left}
use Rattle.ipc_connection.specs.declared.stage.Stage.{Stage}
use Rattle.ipc_connection.specs.declared.stage.Stage.TheVariants.{Greeting, Serving, Finished}
use Rattle.ipc_connection.specs.declared.replying.Told.{Told}
use Rattle.ipc_connection.specs.declared.replying.Told.TheVariants as tells
use Rattle.ipc_words.specs.Limits.{table_slots}
use Rattle.ipc_exchange.specs.Rooms.{is_call_of, ArePlaced, HasRoom, MayGet, IsFresh, IsPlaced, RoomyConnection, NoneServes, Ready, ReadyBut, RoomyService, SuitsStage, roomless, roomy_at, stage_at, table_told}
use Rattle.ipc_core.proofs.AgainLaws.{let_go, made_room, room_history, room_sound}
use Rattle.ipc_core.proofs.BusyLaws.{idle_stays}
use Rattle.ipc_exchange.proofs.LiveLemmas.{has_opened, is_break_of, live_stays}

-- two connections with threads of one number are one connection
pub same_place : (s : RoomyService) → ArePlaced s.kernel s.table s.connections → (p q t u : ℕ) → stage_at s.connections p ≡ Serving t → stage_at s.connections q ≡ Serving u → number_of t ≡ number_of u → p ≡ q
same_place s placed p q t u a b same =
    let first = (placed p t a).found in
    let other = (placed q u b).found in
    let both : suc p ≡ suc q = sym first ∙ (ap (λ n. slice_index_or s.table n 0) same ∙ other) in
    cc

-- a thread that is busy after a command that is not a call of it was busy before
busy_before : (old : KernelParts) (command : Command) (answer : Answer) (new : KernelParts) (t : ℕ) → IsSound old → IsSound new → MayObey old command answer new → is_call_of t command ≡ false → is_busy new t ≡ true → is_busy old t ≡ true
busy_before old command answer new t sound after obeys none is = go (is_busy old t) refl
  where
    go : (b : Bool) → is_busy old t ≡ b → is_busy old t ≡ true
    go true e = e
    go false e = not_both is (idle_stays old command answer new sound after obeys t none e)

room_stays : (old : KernelParts) (command : Command) (answer : Answer) (new : KernelParts) (roomy : RoomyConnection) → IsSound old → IsSound new → MayObey old command answer new → ((t : ℕ) → roomy.connection.stage ≡ Serving t → is_call_of t command ≡ false) → HasRoom old roomy → HasRoom new roomy
room_stays old command answer new roomy sound after obeys none room = record {
  greeting = room.greeting;
  serving = room.serving;
  busy = λ t e is. room.busy t e (busy_before old command answer new t sound after obeys (none t e) is);
}

-- a connection with room for two more answers has room
pub ample : (kernel : KernelParts) (roomy : RoomyConnection) → 2 ≤ roomy.free → HasRoom kernel roomy
ample kernel roomy two = record { greeting = λ e. omega (arith, two); serving = λ t e. omega (arith, two); busy = λ t e is. two }

-- one that has ended needs none
pub ended : (kernel : KernelParts) (roomy : RoomyConnection) → roomy.connection.stage ≡ Finished → HasRoom kernel roomy
ended kernel roomy e = record { greeting = λ f. (let no = sym e ∙ f in absurd cc); serving = λ t f. (let no = sym e ∙ f in absurd cc); busy = λ t f is. (let no = sym e ∙ f in absurd cc) }

not_same : (a b : ℕ) → a ≢ b → (a == b) ≡ false
not_same a b h = false_from_ne_true (a == b) (λ e. h (eqb-true a b e))

-- room that is made for a command keeps a service ready for it
same_busy : (old : KernelParts) (limit room : ℕ) (held : HeldParts) (thread : ℕ) → is_busy (let_go old limit held room) thread ≡ is_busy old thread
unfolding is_busy has_untaken
same_busy old limit room held thread = refl

pub room_ready : (upto : ℕ) (s : RoomyService) (command : Command) (roomy : KernelParts) → MakesRoom upto s.kernel command roomy → Ready s → Ready (record s { kernel = roomy })
room_ready upto s command roomy makes ready = record {
  sound = room_sound upto s.kernel roomy command makes ready.sound;
  placed = λ q t e. (let was = ready.placed q t e in record { live = ap (λ H. is_live H t) same ∙ was.live; within = was.within; found = was.found });
  table = ready.table;
  room = λ q. (let room = ready.room q in record { greeting = room.greeting; serving = room.serving; busy = λ t e is. room.busy t e (sym (busy t) ∙ is) });
}
  where
    same : roomy.history ≡ s.kernel.history
    same = room_history upto s.kernel roomy command makes

    busy : (t : ℕ) → is_busy roomy t ≡ is_busy s.kernel t
    busy t = made_room (λ (k : KernelParts). is_busy k t ≡ is_busy s.kernel t) upto s.kernel roomy command (λ limit room held e. same_busy s.kernel limit room held t) makes refl

-- a command of the connection in a place
pub obeyed_ready : (s : RoomyService) (command : Command) (answer : Answer) (new : KernelParts) (place : ℕ) → Ready s → SuitsStage (stage_at s.connections place) command → IsSound new → MayObey s.kernel command answer new → ReadyBut place (record s { kernel = new })
obeyed_ready s command answer new place ready suits after obeys = record {
  sound = after;
  placed = λ q t e. (let was = ready.placed q t e in record { live = live_stays s.kernel new command answer t obeys (spares command suits t) was.live; within = was.within; found = was.found });
  table = ready.table;
  room = λ q other. room_stays s.kernel command answer new (roomy_at s.connections q) ready.sound after obeys (λ t e. no_call command suits q t other e) (ready.room q);
}
  where
    spares : (command : Command) → SuitsStage (stage_at s.connections place) command → (t : ℕ) → is_break_of t command ≡ false
    spares (Open number space) suits t = refl
    spares (Enter thread call) suits t = refl
    spares (Exreg thread target control) suits t = refl
    spares (Broke thread) suits t = absurd suits
    spares (At reading) suits t = refl
    spares Advance suits t = refl
    spares (Take thread) suits t = refl

    no_call : (command : Command) → SuitsStage (stage_at s.connections place) command → (q t : ℕ) → q ≢ place → stage_at s.connections q ≡ Serving t → is_call_of t command ≡ false
    no_call (Open number space) suits q t other e = refl
    no_call (Enter thread call) suits q t other e = not_same thread t (λ same. other (same_place s ready.placed q place t thread e suits (ap number_of (sym same))))
    no_call (Exreg thread target control) suits q t other e = refl
    no_call (Broke thread) suits q t other e = refl
    no_call (At reading) suits q t other e = refl
    no_call Advance suits q t other e = refl
    no_call (Take thread) suits q t other e = refl

-- a command of nobody's
pub command_ready : (s : RoomyService) (command : Command) (answer : Answer) (new : KernelParts) → Ready s → ((t : ℕ) → is_break_of t command ≡ false) → ((t : ℕ) → is_call_of t command ≡ false) → IsSound new → MayObey s.kernel command answer new → Ready (record s { kernel = new })
command_ready s command answer new ready spares none after obeys = record {
  sound = after;
  placed = λ q t e. (let was = ready.placed q t e in record { live = live_stays s.kernel new command answer t obeys (spares t) was.live; within = was.within; found = was.found });
  table = ready.table;
  room = λ q. room_stays s.kernel command answer new (roomy_at s.connections q) ready.sound after obeys (λ t e. none t) (ready.room q);
}

-- a thread that was opened is new to all connections
pub opened_fresh : (s : RoomyService) (number space thread : ℕ) (new : KernelParts) (place : ℕ) → Ready s → IsSound new → MayObey s.kernel (Open number space) (Opened thread) new → IsFresh new s.connections place thread
opened_fresh s number space thread new place ready after obeys =
    let opened = has_opened s.kernel new number space thread after obeys in
    record {
      live = opened.live;
      within = rw (opened.number_is) opened.within;
      alone = λ other rival apart e. (let was = ready.placed other rival e in λ (same : number_of rival ≡ number_of thread). opened.alone rival was.live (same ∙ opened.number_is));
    }

-- a break of a thread that no connection serves
pub left_ready : (s : RoomyService) (thread : ℕ) (answer : Answer) (new : KernelParts) → Ready s → NoneServes s.connections thread → IsSound new → MayObey s.kernel (Broke thread) answer new → Ready (record s { kernel = new })
left_ready s thread answer new ready none after obeys = record {
  sound = after;
  placed = λ q t e. (let was = ready.placed q t e in record { live = live_stays s.kernel new (Broke thread) answer t obeys (not_same thread t (λ same. none q (e ∙ ap Serving (sym same)))) was.live; within = was.within; found = was.found });
  table = ready.table;
  room = λ q. room_stays s.kernel (Broke thread) answer new (roomy_at s.connections q) ready.sound after obeys (λ t e. refl) (ready.room q);
}

-- connections that differ in one place
roomy_there : (connections : List RoomyConnection) (place : ℕ) (roomy : RoomyConnection) → place < length connections → roomy_at (slice_set connections place roomy) place ≡ roomy
roomy_there connections place roomy within = get_or-set_same connections place roomy roomless within

roomy_else : (connections : List RoomyConnection) (place q : ℕ) (roomy : RoomyConnection) → q ≢ place → roomy_at (slice_set connections place roomy) q ≡ roomy_at connections q
roomy_else connections place q roomy other = get_or-set_other connections place q roomy roomless other

module _ (s : RoomyService) (place : ℕ) (roomy : RoomyConnection) (within : place < length s.connections) where
  abbrev changed : List RoomyConnection
  changed = slice_set s.connections place roomy

  -- what holds of each connection
  pub at_each : (P : ℕ → RoomyConnection → Type 0) → P place roomy → ((q : ℕ) → q ≢ place → P q (roomy_at s.connections q)) → (q : ℕ) → P q (roomy_at changed q)
  at_each P here others q = go (q == place) refl
    where
      go : (b : Bool) → (q == place) ≡ b → P q (roomy_at changed q)
      go true e =
          let same : q ≡ place = eqb-true q place e in
          subst (λ k. P k (roomy_at changed k)) (sym same) (subst (P place) (sym (roomy_there s.connections place roomy within)) here)
      go false e =
          let other : q ≢ place = λ same. not_both (eq-eqb q place same) e in
          subst (P q) (sym (roomy_else s.connections place q roomy other)) (others q other)

  -- a connection in the same stage, with no less room
  pub roomier : roomy.connection.stage ≡ stage_at s.connections place → (roomy_at s.connections place).free ≤ roomy.free → Ready s → Ready (record s { connections = changed })
  roomier same more ready = record {
    sound = ready.sound;
    placed = at_each (λ q l. (t : ℕ) → l.connection.stage ≡ Serving t → IsPlaced s.kernel s.table q t) (λ t e. ready.placed place t (sym same ∙ e)) (λ q other t e. ready.placed q t e);
    table = ready.table;
    room = at_each (λ q l. HasRoom s.kernel l) (room_more (ready.room place)) (λ q other. ready.room q);
  }
    where
      room_more : HasRoom s.kernel (roomy_at s.connections place) → HasRoom s.kernel roomy
      room_more room = record {
        greeting = λ e. (let r = room.greeting (sym same ∙ e) in omega (arith, r, more));
        serving = λ t e. (let r = room.serving t (sym same ∙ e) in omega (arith, r, more));
        busy = λ t e is. (let r = room.busy t (sym same ∙ e) is in omega (arith, r, more));
      }

  -- something is told to the connection, which has room for two more answers then
  module _ (told : Told) (old : Stage) (was : old ≡ stage_at s.connections place) (is : roomy.connection.stage ≡ next_stage old told) (enough : HasRoom s.kernel roomy) (ready : ReadyBut place s) (fresh : MayGet s.kernel s.connections place told) where
    -- the table after it
    abbrev table_after : List ℕ
    table_after = table_told told place s.table

    other_found : (told : Told) → MayGet s.kernel s.connections place told → (q t : ℕ) → q ≢ place → stage_at s.connections q ≡ Serving t → slice_index_or (table_told told place s.table) (number_of t) 0 ≡ slice_index_or s.table (number_of t) 0
    other_found (tells.Opened thread version) fresh q t other e = get_or-set_other s.table (number_of thread) (number_of t) (suc place) 0 (fresh.alone q t other e)
    other_found tells.Entered fresh q t other e = refl
    other_found (tells.Exchanged result control code moment) fresh q t other e = refl
    other_found (tells.Refused refusal) fresh q t other e = refl
    other_found (tells.Faulted class number) fresh q t other e = refl
    other_found tells.Left fresh q t other e = refl

    here_placed : (told : Told) → MayGet s.kernel s.connections place told → (t : ℕ) → next_stage old told ≡ Serving t → IsPlaced s.kernel (table_told told place s.table) place t
    unfolding next_stage
    here_placed (tells.Opened thread version) fresh t e =
        let same : thread ≡ t = cc in
        subst (IsPlaced s.kernel (slice_set s.table (number_of thread) (suc place)) place) same (record {
          live = fresh.live;
          within = fresh.within;
          found = get_or-set_same s.table (number_of thread) (suc place) 0 (rw (ready.table) fresh.within);
        })
    here_placed tells.Entered fresh t e = ready.placed place t (sym was ∙ e)
    here_placed (tells.Exchanged result control code moment) fresh t e = ready.placed place t (sym was ∙ e)
    here_placed (tells.Refused refusal) fresh t e = go (ends_by refusal) e
      where
        go : (b : Bool) → (if b then Finished else old) ≡ Serving t → IsPlaced s.kernel s.table place t
        go true g = absurd cc
        go false g = ready.placed place t (sym was ∙ g)
    here_placed (tells.Faulted class number) fresh t e = absurd cc
    here_placed tells.Left fresh t e = absurd cc

    table_length : (told : Told) → length (table_told told place s.table) ≡ table_slots
    table_length (tells.Opened thread version) = length-set s.table (number_of thread) (suc place) ∙ ready.table
    table_length tells.Entered = ready.table
    table_length (tells.Exchanged result control code moment) = ready.table
    table_length (tells.Refused refusal) = ready.table
    table_length (tells.Faulted class number) = ready.table
    table_length tells.Left = ready.table

    pub told_ready : Ready (record s { connections = changed; table = table_after })
    told_ready = record {
      sound = ready.sound;
      placed = at_each (λ q l. (t : ℕ) → l.connection.stage ≡ Serving t → IsPlaced s.kernel table_after q t)
          (λ t e. here_placed told fresh t (sym is ∙ e))
          (λ q other t e. (let before = ready.placed q t e in record { live = before.live; within = before.within; found = other_found told fresh q t other e ∙ before.found }));
      table = table_length told;
      room = at_each (λ q l. HasRoom s.kernel l) enough (λ q other. ready.room q other);
    }

    -- where its connection ends so, no connection serves its thread
    pub left_alone : (t : ℕ) → thread_left old (next_stage old told) ≡ Some t → NoneServes changed t
    unfolding thread_left
    left_alone t e = go old (next_stage old told) refl refl e
      where
        go : (a b : Stage) → old ≡ a → next_stage old told ≡ b → thread_left a b ≡ Some t → NoneServes changed t
        go (Serving thread) Finished f g h =
            let same : thread ≡ t = cc in
            at_each (λ q l. l.connection.stage ≢ Serving t) (λ again. (let no : Finished ≡ Serving t = sym g ∙ (sym is ∙ again) in absurd cc)) (λ q other again. other (same_place s ready.placed q place t t again (sym was ∙ (f ∙ ap Serving same)) refl))
        go (Serving thread) Greeting f g h = absurd cc
        go (Serving thread) (Serving other) f g h = absurd cc
        go Greeting b f g h = absurd cc
        go Finished b f g h = absurd cc
