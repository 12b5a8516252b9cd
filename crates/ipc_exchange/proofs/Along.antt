-- What goes along with each command goes along with each list of events.
use Rattle.std.proofs.Common.{◌≡◌, List, [], ◌∷◌, ◌++◌, ℕ, zero, suc, sym, ap, subst, ◌∙◌, Option, Some, None, Result}
use Rattle.std.proofs.lemmas.List.{append-nil}
use Rattle.ipc_frame.specs.declared.version.WireVersion.{WireVersion}
use Rattle.ipc_frame.specs.declared.fault.FrameFault.{FrameFault}
use Rattle.ipc_core.specs.KernelParts.{KernelParts}
use Rattle.ipc_core.specs.declared.command.Answer.{Answer}
use Rattle.ipc_core.specs.declared.command.Command.{Command}
use Rattle.ipc_connection.specs.Asking.{asks}
use Rattle.ipc_connection.specs.Chain.{Chain}
use Rattle.ipc_connection.specs.declared.asking.Reaction.{Reaction}
use Rattle.ipc_connection.specs.declared.asking.Reaction.TheVariants.{Ask, Leave, Refuse, Nothing}
use Rattle.ipc_connection.specs.declared.heard.Heard.{Heard}
use Rattle.ipc_connection.specs.declared.replying.Told.{Told}
use Rattle.ipc_core.specs.Outcomes.{outcome_to_take}
use Rattle.ipc_connection.specs.declared.stage.Stage.{Stage}
use Rattle.ipc_connection.specs.declared.stage.Stage.TheVariants.{Greeting, Serving, Finished}
use Rattle.ipc_words.specs.Limits.{table_slots}
use Rattle.ipc_exchange.specs.Service.{ConnectionParts, ServiceParts, connection_at, delivered, delivered_to, outcome_at, place_of, told_outcome, without_outcome}
use Rattle.ipc_connection.specs.Replying.{told_of}
use Rattle.ipc_exchange.specs.Serving.{Asked, Does, Leaves, Memory, ObeysIn, Serves, ServesAll, ServesBy, Tells}
use Rattle.ipc_exchange.specs.Events.{Commands, Event, ExchangeParts, Happens, HappenAll}
use Rattle.ipc_exchange.specs.Events.{Connect, Piece, Finish, Reading, Copy}

module _
    (memory : Memory)
    (R : KernelParts → List Asked → KernelParts → Type 0)
    (none : (h : KernelParts) → R h [] h)
    (both : (h k l : KernelParts) (first rest : List Asked) → R h first k → R k rest l → R h (first ++ rest) l)
    (one : (old new : KernelParts) (command : Command) (answer : Answer) → ObeysIn memory old command answer new → R old (record { command = command; answer = answer } ∷ []) new)
    (takes : (kernel : KernelParts) (thread : ℕ) → R kernel [] (without_outcome kernel (outcome_to_take kernel thread)))
  where
    told_along : (place : ℕ) (service : ServiceParts) → R service.kernel [] (told_outcome place service).kernel
    told_along place service = go (connection_at service.connections place).stage
      where
        go : (stage : Stage) → R service.kernel [] (without_outcome service.kernel (outcome_at service.kernel stage))
        go Greeting = none service.kernel
        go (Serving thread) = takes service.kernel thread
        go Finished = none service.kernel

    delivered_to_along : (numbers : ℕ) (service : ServiceParts) → R service.kernel [] (delivered_to numbers service).kernel
    unfolding delivered_to
    delivered_to_along zero service = none service.kernel
    delivered_to_along (suc number) service = both _ _ _ [] [] (delivered_to_along number service) (told_along (place_of number (delivered_to number service).connections) (delivered_to number service))

    delivered_along : (connections : List ConnectionParts) (kernel : KernelParts) → R kernel [] (delivered kernel connections).kernel
    unfolding delivered
    delivered_along connections kernel = delivered_to_along table_slots (record { kernel = kernel; connections = connections })

    stays : (H K : KernelParts) (asked : List Asked) → asked ≡ [] → K ≡ H → R H asked K
    stays H K asked nothing same = subst (λ a. R H a K) (sym nothing) (subst (λ k. R H [] k) (sym same) (none H))

    then_nothing : (h k l : KernelParts) (asked : List Asked) → R h asked k → R k [] l → R h asked l
    then_nothing h k l asked first rest = subst (λ a. R h a l) (append-nil asked) (both h k l asked [] first rest)

    leaves_along : (old new : KernelParts) (thread : Option ℕ) (asked : List Asked) → Leaves memory old thread asked new → R old asked new
    leaves_along old new None asked leaves = stays _ _ asked leaves.0 leaves.1
    leaves_along old new (Some thread) asked (answer, is, obeys) = subst (λ a. R old a new) (sym is) (one old new _ answer obeys)

    tells_along : (old new : ServiceParts) (place : ℕ) (told : Told) (asked : List Asked) → Tells memory old place told asked new → R old.kernel asked new.kernel
    tells_along old new place told asked tells =
        subst (λ k. R old.kernel asked k) (sym (ap (λ (s : ServiceParts). s.kernel) tells.new_is))
        (then_nothing old.kernel tells.kernel _ asked (leaves_along old.kernel tells.kernel _ asked tells.leaves) (delivered_along _ tells.kernel))

    does_along : (old new : ServiceParts) (place : ℕ) (version : WireVersion) (command : Command) (asked : List Asked) → Does memory old place version command asked new → R old.kernel asked new.kernel
    does_along old new place version command asked does =
        subst (λ a. R old.kernel a new.kernel) (sym does.asked_is)
        (both _ _ _ (record { command = command; answer = does.answer } ∷ []) does.rest (one old.kernel does.between command does.answer does.obeys)
        (tells_along (record { kernel = does.between; connections = old.connections }) new place (told_of version does.between.moment does.answer) does.rest does.tells))

    by_along : (reaction : Reaction) (old new : ServiceParts) (place : ℕ) (asked : List Asked) → ServesBy memory old place reaction asked new → R old.kernel asked new.kernel
    by_along Nothing old new place asked serves = stays _ _ asked serves.0 (ap (λ (s : ServiceParts). s.kernel) serves.1)
    by_along (Ask request) old new place asked serves = does_along old new place _ _ asked serves
    by_along Leave old new place asked serves = tells_along old new place _ asked serves
    by_along (Refuse class number) old new place asked serves = tells_along old new place _ asked serves

    pub serves_along : (old new : ServiceParts) (place : ℕ) (heard : Result Heard FrameFault) (asked : List Asked) → Serves memory old place heard asked new → R old.kernel asked new.kernel
    unfolding Serves
    serves_along old new place heard asked serves = by_along (asks (connection_at old.connections place).stage heard) old new place asked serves

    all_along : (heard : List (Result Heard FrameFault)) (old new : ServiceParts) (place : ℕ) (asked : List Asked) → ServesAll memory old place heard asked new → R old.kernel asked new.kernel
    unfolding Chain
    all_along [] old new place asked serves = stays _ _ asked serves.0 (ap (λ (s : ServiceParts). s.kernel) serves.1)
    all_along (h ∷ heard) old new place asked (first, rest, between, is, here, later) =
        subst (λ a. R old.kernel a new.kernel) (sym is)
        (both _ _ _ first rest (serves_along old between place h first here) (all_along heard between new place rest later))

    command_along : (command : Command) (old new : ExchangeParts) (asked : List Asked) → Commands memory old command asked new → R old.service.kernel asked new.service.kernel
    command_along command old new asked commands =
        let (between, obeys, is) = commands.answers in
        subst (λ k. R old.service.kernel asked k) (sym (ap (λ (s : ExchangeParts). s.service.kernel) commands.new_is ∙ ap (λ (s : ServiceParts). s.kernel) is))
        (then_nothing old.service.kernel between _ asked
        (subst (λ a. R old.service.kernel a between) (sym commands.asked_is) (one old.service.kernel between command commands.answer obeys))
        (delivered_along old.service.connections between))

    pub event_along : (event : Event) (old new : ExchangeParts) (asked : List Asked) → Happens memory old event asked new → R old.service.kernel asked new.service.kernel
    event_along (Connect space) old new asked happens = stays _ _ asked happens.0 (ap (λ (s : ExchangeParts). s.service.kernel) happens.1)
    event_along (Piece place piece) old new asked feeds =
        subst (λ H. R old.service.kernel asked H) (sym (ap (λ (s : ExchangeParts). s.service.kernel) feeds.new_is))
        (all_along feeds.heard old.service feeds.service place asked feeds.serves)
    event_along (Finish place) old new asked closes =
        subst (λ H. R old.service.kernel asked H) (sym (ap (λ (s : ExchangeParts). s.service.kernel) closes.new_is))
        (serves_along old.service closes.service place _ asked closes.serves)
    event_along (Reading reading) old new asked commands = command_along _ old new asked commands
    event_along Copy old new asked commands = command_along _ old new asked commands

    pub events_along : (events : List Event) (old new : ExchangeParts) (asked : List Asked) → HappenAll memory old events asked new → R old.service.kernel asked new.service.kernel
    unfolding Chain
    events_along [] old new asked happen = stays _ _ asked happen.0 (ap (λ (s : ExchangeParts). s.service.kernel) happen.1)
    events_along (event ∷ events) old new asked (first, rest, between, is, here, later) =
        subst (λ a. R old.service.kernel a new.service.kernel) (sym is)
        (both _ _ _ first rest (event_along event old between first here) (events_along events between new rest later))
