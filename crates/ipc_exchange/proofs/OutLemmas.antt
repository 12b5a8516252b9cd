-- What waits on a connection gets more at its end alone.
use Rattle.std.proofs.Common.{◌≡◌, ℕ, zero, suc, List, [], ◌∷◌, ◌++◌, refl, sym, ap, subst, ◌∙◌, append_assoc, Result}
use Rattle.std.specs.Prelude.{option_map, slice_set}
use Rattle.std.proofs.lemmas.List.{append-nil}
use mathlib.Core.List.{IsPrefix}
use Rattle.ipc_frame.specs.Replies.{ipcr_of}
use Rattle.ipc_frame.specs.declared.fault.FrameFault.{FrameFault}
use Rattle.ipc_core.specs.KernelParts.{KernelParts}
use Rattle.ipc_core.specs.declared.command.Command.{Command}
use Rattle.ipc_connection.specs.Hearing.{heard_at_end}
use Rattle.ipc_connection.specs.declared.heard.Heard.{Heard}
use Rattle.ipc_connection.specs.Asking.{asks}
use Rattle.ipc_connection.specs.Chain.{Chain}
use Rattle.ipc_connection.specs.Replying.{reply}
use Rattle.ipc_connection.specs.declared.asking.Reaction.{Reaction}
use Rattle.ipc_connection.specs.declared.asking.Reaction.TheVariants.{Ask, Leave, Refuse, Nothing}
use Rattle.ipc_connection.specs.declared.replying.Told.{Told}
use Rattle.ipc_exchange.specs.Service.{ConnectionParts, ServiceParts, connection_at, delivered, delivered_to, outcome_at, place_of, text_of, told_connection, told_outcome, with_outcome}
use Rattle.ipc_words.specs.Limits.{table_slots}
use Rattle.ipc_exchange.specs.Serving.{Asked, Memory, Serves, ServesAll, ServesBy, Tells}
use Rattle.ipc_exchange.specs.Events.{Commands, Connect, Copy, Event, ExchangeParts, Finish, HappenAll, Happens, Piece, Reading, held_at}
use Rattle.ipc_exchange.specs.Laws.{OutGrows}

prefix_same : (bytes : List ℕ) → IsPrefix bytes bytes
prefix_same bytes = ([], append-nil bytes)

prefix_both : (a b c : List ℕ) → IsPrefix a b → IsPrefix b c → IsPrefix a c
prefix_both a b c (more, is) (last, is_last) = (more ++ last, sym (append_assoc a more last) ∙ (ap (λ (l : List ℕ). l ++ last) is ∙ is_last))

-- what waits on each connection gets more
abbrev Grow : List ConnectionParts → List ConnectionParts → Type 0
Grow old new = (place : ℕ) → IsPrefix (connection_at old place).out (connection_at new place).out

grow_none : (connections : List ConnectionParts) → Grow connections connections
grow_none connections place = prefix_same (connection_at connections place).out

grow_both : (a b c : List ConnectionParts) → Grow a b → Grow b c → Grow a c
grow_both a b c first next place = prefix_both (connection_at a place).out (connection_at b place).out (connection_at c place).out (first place) (next place)

-- one connection gets more
grow_one : (connections : List ConnectionParts) (at : ℕ) (connection : ConnectionParts) (more : List ℕ) → connection.out ≡ (connection_at connections at).out ++ more → Grow connections (slice_set connections at connection)
grow_one [] at connection more is place = prefix_same (connection_at [] place).out
grow_one (l ∷ connections) zero connection more is zero = (more, sym is)
grow_one (l ∷ connections) zero connection more is (suc place) = prefix_same (connection_at connections place).out
grow_one (l ∷ connections) (suc at) connection more is zero = prefix_same l.out
grow_one (l ∷ connections) (suc at) connection more is (suc place) = grow_one connections at connection more is place

-- one more connection
grow_new : (connections : List ConnectionParts) (connection : ConnectionParts) → Grow connections (connections ++ connection ∷ [])
grow_new [] connection zero = (connection.out, refl)
grow_new [] connection (suc place) = prefix_same []
grow_new (l ∷ connections) connection zero = prefix_same l.out
grow_new (l ∷ connections) connection (suc place) = grow_new connections connection place

told_grows : (place : ℕ) (service : ServiceParts) → Grow service.connections (told_outcome place service).connections
told_grows place service =
    let outcome = outcome_at service.kernel (connection_at service.connections place).stage in
    grow_one service.connections place (with_outcome outcome (connection_at service.connections place)) (text_of (option_map (ipcr_of (connection_at service.connections place).version) outcome)) refl

delivered_to_grows : (numbers : ℕ) (service : ServiceParts) → Grow service.connections (delivered_to numbers service).connections
unfolding delivered_to
delivered_to_grows zero service = grow_none service.connections
delivered_to_grows (suc number) service =
    let before : ServiceParts = delivered_to number service in
    grow_both service.connections before.connections (told_outcome (place_of number before.connections) before).connections (delivered_to_grows number service) (told_grows (place_of number before.connections) before)

delivered_grows : (kernel : KernelParts) (connections : List ConnectionParts) → Grow connections (delivered kernel connections).connections
unfolding delivered
delivered_grows kernel connections = delivered_to_grows table_slots (record { kernel = kernel; connections = connections })

module _ (memory : Memory) where
  tells_grows : (place : ℕ) (old new : ServiceParts) (told : Told) (asked : List Asked) → Tells memory old place told asked new → Grow old.connections new.connections
  tells_grows place old new told asked tells =
      let connection : ConnectionParts = told_connection told (connection_at old.connections place) in
      subst (λ (s : ServiceParts). Grow old.connections s.connections) (sym tells.new_is)
      (grow_both old.connections (slice_set old.connections place connection) (delivered tells.kernel (slice_set old.connections place connection)).connections
      (grow_one old.connections place connection (text_of (reply (connection_at old.connections place).version told)) refl)
      (delivered_grows tells.kernel (slice_set old.connections place connection)))

  serves_grows : (place : ℕ) (old new : ServiceParts) (heard : Result Heard FrameFault) (asked : List Asked) → Serves memory old place heard asked new → Grow old.connections new.connections
  unfolding Serves
  serves_grows place old new heard asked serves = go (asks (connection_at old.connections place).stage heard) serves
    where
      go : (reaction : Reaction) → ServesBy memory old place reaction asked new → Grow old.connections new.connections
      go Nothing s = subst (λ (x : ServiceParts). Grow old.connections x.connections) (sym s.1) (grow_none old.connections)
      go (Ask request) s = tells_grows place _ new _ s.rest s.tells
      go Leave s = tells_grows place old new _ asked s
      go (Refuse class number) s = tells_grows place old new _ asked s

  all_grow : (place : ℕ) (heard : List (Result Heard FrameFault)) (old new : ServiceParts) (asked : List Asked) → ServesAll memory old place heard asked new → Grow old.connections new.connections
  unfolding Chain
  all_grow place [] old new asked serves = subst (λ (x : ServiceParts). Grow old.connections x.connections) (sym serves.1) (grow_none old.connections)
  all_grow place (h ∷ heard) old new asked (first, rest, between, both, one, more) = grow_both old.connections between.connections new.connections (serves_grows place old between h first one) (all_grow place heard between new rest more)

  command_grows : (command : Command) (old new : ExchangeParts) (asked : List Asked) → Commands memory old command asked new → Grow old.service.connections new.service.connections
  command_grows command old new asked commands =
      let (between, obeys, is) = commands.answers in
      subst (λ (s : ExchangeParts). Grow old.service.connections s.service.connections) (sym commands.new_is)
      (subst (λ (s : ServiceParts). Grow old.service.connections s.connections) (sym is) (delivered_grows between old.service.connections))

  event_grows : (event : Event) (old new : ExchangeParts) (asked : List Asked) → Happens memory old event asked new → Grow old.service.connections new.service.connections
  event_grows (Connect space) old new asked happens = subst (λ (s : ExchangeParts). Grow old.service.connections s.service.connections) (sym happens.1) (grow_new old.service.connections _)
  event_grows (Piece place piece) old new asked feeds = subst (λ (s : ExchangeParts). Grow old.service.connections s.service.connections) (sym feeds.new_is) (all_grow place feeds.heard old.service feeds.service asked feeds.serves)
  event_grows (Finish place) old new asked closes = subst (λ (s : ExchangeParts). Grow old.service.connections s.service.connections) (sym closes.new_is) (serves_grows place old.service closes.service (heard_at_end (held_at old place)) asked closes.serves)
  event_grows (Reading reading) old new asked commands = command_grows _ old new asked commands
  event_grows Copy old new asked commands = command_grows _ old new asked commands

  events_grow : (events : List Event) (old new : ExchangeParts) (asked : List Asked) → HappenAll memory old events asked new → Grow old.service.connections new.service.connections
  unfolding Chain
  events_grow [] old new asked happen = subst (λ (s : ExchangeParts). Grow old.service.connections s.service.connections) (sym happen.1) (grow_none old.service.connections)
  events_grow (event ∷ events) old new asked (first, rest, between, is, here, later) = grow_both old.service.connections between.service.connections new.service.connections (event_grows event old between first here) (events_grow events between new rest later)

pub out_grows : OutGrows
out_grows memory old new events asked happen = events_grow memory events old new asked happen
