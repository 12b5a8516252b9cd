-- Without want of memory what happens is a function.
use Rattle.std.proofs.Common.{◌≡◌, List, [], ◌∷◌, ◌++◌, ℕ, refl, sym, ap, ap₂, subst, ◌∙◌, Option, Some, None, Result}
use Rattle.std.specs.Prelude.{slice_set}
use Rattle.ipc_frame.specs.declared.version.WireVersion.{WireVersion}
use Rattle.ipc_history.specs.Legal.{Legal}
use Rattle.ipc_frame.specs.declared.fault.FrameFault.{FrameFault}
use Rattle.ipc_frame.specs.Stream.{stream_of}
use Rattle.ipc_frame.specs.declared.kind.Side.TheVariants.{Server}
use Rattle.ipc_core.specs.Again.{MakesRoom}
use Rattle.ipc_core.specs.KernelParts.{KernelParts, without_room}
use Rattle.ipc_core.specs.declared.command.Answer.{Answer}
use Rattle.ipc_core.specs.declared.command.Command.{Command}
use Rattle.ipc_core.specs.declared.command.Command.TheVariants.{Broke}
use Rattle.ipc_core.proofs.AgainLaws.{obeyed_alike, room_history, room_once}
use Rattle.ipc_connection.specs.Hearing.{heard_at_end, heard_in, left_in}
use Rattle.ipc_connection.specs.declared.heard.Heard.{Heard}
use Rattle.ipc_connection.specs.Asking.{asks}
use Rattle.ipc_connection.specs.Chain.{Chain}
use Rattle.ipc_connection.specs.declared.asking.Reaction.{Reaction}
use Rattle.ipc_connection.specs.declared.asking.Reaction.TheVariants.{Ask, Leave, Refuse, Nothing}
use Rattle.ipc_connection.specs.declared.replying.Told.{Told}
use Rattle.ipc_exchange.specs.Service.{ConnectionParts, ServiceParts, at_rest, connection_at, delivered, told_connection}
use Rattle.ipc_connection.specs.Replying.{told_of}
use Rattle.ipc_exchange.specs.Serving.{Ample, Asked, Does, Leaves, ObeysIn, Serves, ServesAll, ServesBy, Tells}
use Rattle.ipc_exchange.specs.Events.{Commands, Event, ExchangeParts, Happens, HappenAll, connected, held_at, holding, kept}
use Rattle.ipc_exchange.specs.Events.{Connect, Piece, Finish, Reading, Copy}
use Rattle.ipc_exchange.specs.Laws.{HappenOnce, without_history_room}
use Rattle.ipc_exchange.proofs.Along.{event_along, serves_along}
use Rattle.ipc_exchange.proofs.CallLemmas.{obeys_in_legal}
use Rattle.ipc_exchange.proofs.MovedLemmas.{delivered_seen}
use Rattle.ipc_exchange.proofs.RestedLemmas.{roomless}

-- a service without the room of its history
abbrev bare : ServiceParts → ServiceParts
bare service = record { kernel = without_room service.kernel; connections = service.connections }

-- two kernels are the same but for the room
abbrev Alike : KernelParts → KernelParts → Type 0
Alike k l = without_room k ≡ without_room l

-- what was answered is the same, and so is the state after it but for the room
abbrev Same : List Asked → List Asked → ServiceParts → ServiceParts → Type 0
Same xs ys one other = (xs ≡ ys) × (bare one ≡ bare other)

abbrev with_connections : KernelParts → List ConnectionParts → ServiceParts
with_connections kernel connections = record { kernel = kernel; connections = connections }

-- one command of kernels that are alike
record Obeyed (one other : KernelParts) (a b : Answer) : Type 0 where
  pub answers : a ≡ b
  pub alike : Alike one other

obeys_in_once : (old old' one other : KernelParts) (command : Command) (a b : Answer) → Alike old old' → Legal old.history → ObeysIn Ample old command a one → ObeysIn Ample old' command b other → Obeyed one other a b
obeys_in_once old old' one other command a b alike legal obeys again =
    let roomy = room_once old.held.mark old old' obeys.roomy again.roomy command alike obeys.makes_room (subst (λ upto. MakesRoom upto old' command again.roomy) (sym (ap (λ (k : KernelParts). k.held.mark) alike)) again.makes_room) in
    let here = subst Legal (sym (room_history old.held.mark old obeys.roomy command obeys.makes_room)) legal in
    let once = obeyed_alike obeys.roomy again.roomy obeys.after again.after command a b roomy here obeys.answers again.answers in
    record { answers = once.0; alike = ap without_room obeys.new_is ∙ (ap at_rest once.1 ∙ sym (ap without_room again.new_is)) }

record Left (xs ys : List Asked) (one other : KernelParts) : Type 0 where
  pub asked : xs ≡ ys
  pub alike : Alike one other

leaves_once : (old old' one other : KernelParts) (left : Option ℕ) (xs ys : List Asked) → Alike old old' → Legal old.history → Leaves Ample old left xs one → Leaves Ample old' left ys other → Left xs ys one other
leaves_once old old' one other None xs ys alike legal l r = record { asked = l.0 ∙ sym r.0; alike = ap without_room l.1 ∙ (alike ∙ sym (ap without_room r.1)) }
leaves_once old old' one other (Some thread) xs ys alike legal (a, is, obeys) (b, was, again) =
    let once = obeys_in_once old old' one other (Broke thread) a b alike legal obeys again in
    record { asked = is ∙ (ap (λ (x : Answer). record { command = Broke thread; answer = x } ∷ []) once.answers ∙ sym was); alike = once.alike }

-- outcomes that go out depend on no room
delivered_once : (k l : KernelParts) (connections : List ConnectionParts) → Alike k l → bare (delivered k connections) ≡ bare (delivered l connections)
delivered_once k l connections alike =
    let one = delivered_seen without_room (λ (ls : List ConnectionParts). ls) (λ (ls : List ConnectionParts). Unit {0}) roomless k connections tt in
    let other = delivered_seen without_room (λ (ls : List ConnectionParts). ls) (λ (ls : List ConnectionParts). Unit {0}) roomless l connections tt in
    sym one.is ∙ (ap (λ (x : KernelParts). delivered x connections) alike ∙ other.is)

tells_once : (k l : KernelParts) (connections : List ConnectionParts) (one other : ServiceParts) (place : ℕ) (told : Told) (xs ys : List Asked) → Alike k l → Legal k.history → Tells Ample (with_connections k connections) place told xs one → Tells Ample (with_connections l connections) place told ys other → Same xs ys one other
tells_once k l connections one other place told xs ys alike legal t u =
    let once = leaves_once k l t.kernel u.kernel _ xs ys alike legal t.leaves u.leaves in
    (once.asked, ap bare t.new_is ∙ (delivered_once t.kernel u.kernel (slice_set connections place (told_connection told (connection_at connections place))) once.alike ∙ sym (ap bare u.new_is)))

does_once : (k l : KernelParts) (connections : List ConnectionParts) (one other : ServiceParts) (place : ℕ) (version : WireVersion) (command : Command) (xs ys : List Asked) → Alike k l → Legal k.history → Does Ample (with_connections k connections) place version command xs one → Does Ample (with_connections l connections) place version command ys other → Same xs ys one other
does_once k l connections one other place version command xs ys alike legal d e =
    let once = obeys_in_once k l d.between e.between command d.answer e.answer alike legal d.obeys e.obeys in
    let told = ap₂ (told_of version) (ap (λ (x : KernelParts). x.moment) once.alike) once.answers in
    let tells : Tells Ample (with_connections e.between connections) place (told_of version d.between.moment d.answer) e.rest other = subst (λ (t : Told). Tells Ample (with_connections e.between connections) place t e.rest other) (sym told) e.tells in
    let after = obeys_in_legal Ample k d.between command d.answer d.obeys legal in
    let rest = tells_once d.between e.between connections one other place (told_of version d.between.moment d.answer) d.rest e.rest once.alike after d.tells tells in
    (d.asked_is ∙ (ap₂ (λ (a : Answer) (l : List Asked). record { command = command; answer = a } ∷ l) once.answers rest.0 ∙ sym e.asked_is), rest.1)

by_once : (reaction : Reaction) (k l : KernelParts) (connections : List ConnectionParts) (one other : ServiceParts) (place : ℕ) (xs ys : List Asked) → Alike k l → Legal k.history → ServesBy Ample (with_connections k connections) place reaction xs one → ServesBy Ample (with_connections l connections) place reaction ys other → Same xs ys one other
by_once Nothing k l connections one other place xs ys alike legal s t =
    (s.0 ∙ sym t.0, ap bare s.1 ∙ (ap (λ (x : KernelParts). with_connections x connections) alike ∙ sym (ap bare t.1)))
by_once (Ask request) k l connections one other place xs ys alike legal s t = does_once k l connections one other place _ _ xs ys alike legal s t
by_once Leave k l connections one other place xs ys alike legal s t = tells_once k l connections one other place _ xs ys alike legal s t
by_once (Refuse class number) k l connections one other place xs ys alike legal s t = tells_once k l connections one other place _ xs ys alike legal s t

-- the connections of the one with the kernel of the other
as_one : (P : ServiceParts → Type 0) (one other : ServiceParts) → bare one ≡ bare other → P other → P (with_connections other.kernel one.connections)
as_one P one other same p = subst (λ (connections : List ConnectionParts). P (with_connections other.kernel connections)) (sym (ap (λ (s : ServiceParts). s.connections) same)) p

serves_once : (old old' one other : ServiceParts) (place : ℕ) (said : Result Heard FrameFault) (xs ys : List Asked) → bare old ≡ bare old' → Legal old.kernel.history → Serves Ample old place said xs one → Serves Ample old' place said ys other → Same xs ys one other
unfolding Serves
serves_once old old' one other place said xs ys same legal s t =
    by_once (asks (connection_at old.connections place).stage said) old.kernel old'.kernel old.connections one other place xs ys (ap (λ (x : ServiceParts). x.kernel) same) legal s
    (as_one (λ x. Serves Ample x place said ys other) old old' same t)

serves_legal : (old new : ServiceParts) (place : ℕ) (said : Result Heard FrameFault) (asked : List Asked) → Serves Ample old place said asked new → Legal old.kernel.history → Legal new.kernel.history
serves_legal old new place said asked serves =
    serves_along Ample (λ h asked k. Legal h.history → Legal k.history) (λ h legal. legal) (λ h k l first rest here later legal. later (here legal)) (λ before after command answer obeys. obeys_in_legal Ample before after command answer obeys) (λ kernel thread legal. legal)
    old new place said asked serves

all_once : (said : List (Result Heard FrameFault)) (old old' one other : ServiceParts) (place : ℕ) (xs ys : List Asked) → bare old ≡ bare old' → Legal old.kernel.history → ServesAll Ample old place said xs one → ServesAll Ample old' place said ys other → Same xs ys one other
unfolding Chain
all_once [] old old' one other place xs ys same legal s t = (s.0 ∙ sym t.0, ap bare s.1 ∙ (same ∙ sym (ap bare t.1)))
all_once (h ∷ said) old old' one other place xs ys same legal (first, rest, between, is, here, later) (first', rest', between', is', here', later') =
    let once = serves_once old old' between between' place h first first' same legal here here' in
    let more = all_once said between between' one other place rest rest' once.1 (serves_legal old between place h first here legal) later later' in
    (is ∙ (ap₂ (λ (a b : List Asked). a ++ b) once.0 more.0 ∙ sym is'), more.1)

-- exchanges without the room of the history
abbrev SameExchange : List Asked → List Asked → ExchangeParts → ExchangeParts → Type 0
SameExchange xs ys one other = (xs ≡ ys) × (without_history_room one ≡ without_history_room other)

service_same : (old old' : ExchangeParts) → without_history_room old ≡ without_history_room old' → bare old.service ≡ bare old'.service
service_same old old' same = ap (λ (x : ExchangeParts). x.service) same

held_same : (old old' : ExchangeParts) → without_history_room old ≡ without_history_room old' → old.held ≡ old'.held
held_same old old' same = ap (λ (x : ExchangeParts). x.held) same

-- what is held in the end
holding_same : (old old' : ExchangeParts) (one other : ServiceParts) (place : ℕ) (bytes : List ℕ) → old.held ≡ old'.held → bare one ≡ bare other → without_history_room (holding old one place bytes) ≡ without_history_room (holding old' other place bytes)
holding_same old old' one other place bytes held same =
    ap₂ (λ (s : ServiceParts) (h : List (List ℕ)). record { service = s; held = slice_set h place (kept (connection_at s.connections place).stage bytes) }) same held

command_once : (command : Command) (old old' one other : ExchangeParts) (xs ys : List Asked) → without_history_room old ≡ without_history_room old' → Legal old.service.kernel.history → Commands Ample old command xs one → Commands Ample old' command ys other → SameExchange xs ys one other
command_once command old old' one other xs ys same legal c d =
    let (between, obeys, is) = c.answers in
    let (between', obeys', is') = d.answers in
    let once = obeys_in_once old.service.kernel old'.service.kernel between between' command c.answer d.answer (ap (λ (x : ServiceParts). x.kernel) (service_same old old' same)) legal obeys obeys' in
    let connections : old.service.connections ≡ old'.service.connections = ap (λ (x : ServiceParts). x.connections) (service_same old old' same) in
    let services : bare c.service ≡ bare d.service = ap bare is ∙ (delivered_once between between' old.service.connections once.alike ∙ (ap (λ (l : List ConnectionParts). bare (delivered between' l)) connections ∙ sym (ap bare is'))) in (
      c.asked_is ∙ (ap (λ (a : Answer). record { command = command; answer = a } ∷ []) once.answers ∙ sym d.asked_is),
      ap without_history_room c.new_is ∙ (ap₂ (λ (s : ServiceParts) (h : List (List ℕ)). record { service = s; held = h }) services (held_same old old' same) ∙ sym (ap without_history_room d.new_is)),
    )

event_once : (event : Event) (old old' one other : ExchangeParts) (xs ys : List Asked) → without_history_room old ≡ without_history_room old' → Legal old.service.kernel.history → Happens Ample old event xs one → Happens Ample old' event ys other → SameExchange xs ys one other
event_once (Connect space) old old' one other xs ys same legal a b =
    (a.0 ∙ sym b.0, ap without_history_room a.1 ∙ (ap (connected space) same ∙ sym (ap without_history_room b.1)))
event_once (Piece place piece) old old' one other xs ys same legal a b =
    let held : held_at old place ≡ held_at old' place = ap (λ (x : ExchangeParts). held_at x place) same in
    let heard : b.heard ≡ a.heard = b.hears ∙ (ap (λ (bytes : List ℕ). heard_in (stream_of Server (bytes ++ piece))) (sym held) ∙ sym a.hears) in
    let again : ServesAll Ample old'.service place a.heard ys b.service = subst (λ h. ServesAll Ample old'.service place h ys b.service) heard b.serves in
    let once = all_once a.heard old.service old'.service a.service b.service place xs ys (service_same old old' same) legal a.serves again in
    let left : left_in (stream_of Server (held_at old place ++ piece)).end ≡ left_in (stream_of Server (held_at old' place ++ piece)).end = ap (λ (bytes : List ℕ). left_in (stream_of Server (bytes ++ piece)).end) held in (
      once.0,
      ap without_history_room a.new_is ∙ (holding_same old old' a.service b.service place _ (held_same old old' same) once.1
          ∙ (ap (λ (bytes : List ℕ). without_history_room (holding old' b.service place bytes)) left ∙ sym (ap without_history_room b.new_is))),
    )
event_once (Finish place) old old' one other xs ys same legal a b =
    let held : held_at old place ≡ held_at old' place = ap (λ (x : ExchangeParts). held_at x place) same in
    let again : Serves Ample old'.service place (heard_at_end (held_at old place)) ys b.service = subst (λ (bytes : List ℕ). Serves Ample old'.service place (heard_at_end bytes) ys b.service) (sym held) b.serves in
    let once = serves_once old.service old'.service a.service b.service place (heard_at_end (held_at old place)) xs ys (service_same old old' same) legal a.serves again in
    (once.0, ap without_history_room a.new_is ∙ (holding_same old old' a.service b.service place [] (held_same old old' same) once.1 ∙ sym (ap without_history_room b.new_is)))
event_once (Reading reading) old old' one other xs ys same legal a b = command_once _ old old' one other xs ys same legal a b
event_once Copy old old' one other xs ys same legal a b = command_once _ old old' one other xs ys same legal a b

event_legal : (event : Event) (old new : ExchangeParts) (asked : List Asked) → Happens Ample old event asked new → Legal old.service.kernel.history → Legal new.service.kernel.history
event_legal event old new asked happens =
    event_along Ample (λ h asked k. Legal h.history → Legal k.history) (λ h legal. legal) (λ h k l first rest here later legal. later (here legal)) (λ before after command answer obeys. obeys_in_legal Ample before after command answer obeys) (λ kernel thread legal. legal)
    event old new asked happens

events_once : (events : List Event) (old old' one other : ExchangeParts) (xs ys : List Asked) → without_history_room old ≡ without_history_room old' → Legal old.service.kernel.history → HappenAll Ample old events xs one → HappenAll Ample old' events ys other → SameExchange xs ys one other
unfolding Chain
events_once [] old old' one other xs ys same legal a b = (a.0 ∙ sym b.0, ap without_history_room a.1 ∙ (same ∙ sym (ap without_history_room b.1)))
events_once (event ∷ events) old old' one other xs ys same legal (first, rest, between, is, here, later) (first', rest', between', is', here', later') =
    let once = event_once event old old' between between' first first' same legal here here' in
    let more = events_once events between between' one other rest rest' once.1 (event_legal event old between first here legal) later later' in
    (is ∙ (ap₂ (λ (a b : List Asked). a ++ b) once.0 more.0 ∙ sym is'), more.1)

pub happen_once : HappenOnce
happen_once old one other events asked others legal a b = events_once events old old one other asked others refl legal a b
