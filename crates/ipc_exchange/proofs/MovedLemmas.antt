-- What happens does not depend on the room of the history, nor on bytes that went out.
use Rattle.std.proofs.Common.{◌≡◌, ℕ, zero, suc, List, [], ◌∷◌, ◌++◌, refl, sym, ap, ap₂, subst, ◌∙◌, Option, Some, None, Result}
use Rattle.std.specs.Prelude.{option_map, slice_set}
use Rattle.ipc_frame.specs.declared.version.WireVersion.{WireVersion}
use Rattle.ipc_frame.specs.declared.version.WireVersion.TheVariants.{One}
use Rattle.ipc_frame.specs.Replies.{ipcr_of}
use Rattle.ipc_frame.specs.Stream.{stream_of}
use Rattle.ipc_frame.specs.declared.fault.FrameFault.{FrameFault}
use Rattle.ipc_frame.specs.declared.kind.Side.TheVariants.{Server}
use Rattle.ipc_history.specs.Outcomes.{OutcomeParts}
use Rattle.ipc_words.specs.Limits.{table_slots}
use Rattle.ipc_core.specs.KernelParts.{KernelParts}
use Rattle.ipc_core.specs.declared.command.Answer.{Answer}
use Rattle.ipc_core.specs.declared.command.Command.{Command}
use Rattle.ipc_core.specs.declared.command.Command.TheVariants as command
use Rattle.ipc_connection.specs.Hearing.{heard_at_end, left_in}
use Rattle.ipc_connection.specs.declared.heard.Heard.{Heard}
use Rattle.ipc_connection.specs.Asking.{asks, command_of, version_asked}
use Rattle.ipc_connection.specs.Chain.{Chain}
use Rattle.ipc_connection.specs.Replying.{next_stage, next_version, reply, thread_left, told_of}
use Rattle.ipc_connection.specs.declared.asking.Reaction.{Reaction}
use Rattle.ipc_connection.specs.declared.asking.Reaction.TheVariants.{Ask, Leave, Refuse, Nothing}
use Rattle.ipc_connection.specs.declared.replying.Told.{Told}
use Rattle.ipc_connection.specs.declared.replying.Told.TheVariants.{Faulted, Left}
use Rattle.ipc_connection.specs.declared.stage.Stage.{Stage}
use Rattle.ipc_connection.specs.declared.stage.Stage.TheVariants.{Greeting}
use Rattle.ipc_exchange.specs.Service.{ConnectionParts, ServiceParts, connection_at, delivered, delivered_to, outcome_at, place_of, text_of, told_outcome, with_outcome, without_outcome}
use Rattle.ipc_exchange.specs.Serving.{Asked, Does, Leaves, Memory, ObeysIn, Serves, ServesAll, ServesBy, Tells}
use Rattle.ipc_exchange.specs.Events.{Commands, Event, ExchangeParts, HappenAll, Happens, held_at, holding, kept}
use Rattle.ipc_exchange.specs.Events.{Connect, Copy, Finish, Piece, Reading}

-- a connection to which more is told
abbrev pub more_told : (Stage → Stage) → (WireVersion → WireVersion) → List ℕ → ConnectionParts → ConnectionParts
more_told next speaks text connection = record { space = connection.space; stage = next connection.stage; version = speaks connection.version; out = connection.out ++ text }

abbrev pub with_more : List ConnectionParts → ℕ → (Stage → Stage) → (WireVersion → WireVersion) → List ℕ → List ConnectionParts
with_more connections place next speaks text = slice_set connections place (more_told next speaks text (connection_at connections place))

-- a connection that came
abbrev pub newcomer : ℕ → ConnectionParts
newcomer space = record { space = space; stage = Greeting; version = One; out = [] }

-- another view of kernels, and one of connections that fit: what is told is the same in it
pub record PassesTold (kernel_to : KernelParts → KernelParts) (connections_to : List ConnectionParts → List ConnectionParts) (Fits : List ConnectionParts → Type 0) : Type 0 where
  pub outcome : (kernel : KernelParts) (stage : Stage) → outcome_at (kernel_to kernel) stage ≡ outcome_at kernel stage
  pub taken : (kernel : KernelParts) (outcome : Option OutcomeParts) → without_outcome (kernel_to kernel) outcome ≡ kernel_to (without_outcome kernel outcome)
  pub stage : (connections : List ConnectionParts) (place : ℕ) → (connection_at (connections_to connections) place).stage ≡ (connection_at connections place).stage
  pub space : (connections : List ConnectionParts) (place : ℕ) → (connection_at (connections_to connections) place).space ≡ (connection_at connections place).space
  pub moment : (kernel : KernelParts) → (kernel_to kernel).moment ≡ kernel.moment
  pub version : (connections : List ConnectionParts) (place : ℕ) → (connection_at (connections_to connections) place).version ≡ (connection_at connections place).version
  pub more : (connections : List ConnectionParts) (place : ℕ) (next : Stage → Stage) (speaks : WireVersion → WireVersion) (text : List ℕ) → Fits connections → with_more (connections_to connections) place next speaks text ≡ connections_to (with_more connections place next speaks text)
  pub fits_more : (connections : List ConnectionParts) (place : ℕ) (next : Stage → Stage) (speaks : WireVersion → WireVersion) (text : List ℕ) → Fits connections → Fits (with_more connections place next speaks text)
  pub new : (connections : List ConnectionParts) (space : ℕ) → Fits connections → connections_to connections ++ newcomer space ∷ [] ≡ connections_to (connections ++ newcomer space ∷ [])
  pub fits_new : (connections : List ConnectionParts) (space : ℕ) → Fits connections → Fits (connections ++ newcomer space ∷ [])
  pub place : (number : ℕ) (connections : List ConnectionParts) → place_of number (connections_to connections) ≡ place_of number connections

-- and what is asked
abbrev pub PassesAsked : Memory → (KernelParts → KernelParts) → Type 0
PassesAsked memory kernel_to =
    (old new : KernelParts) (command : Command) (answer : Answer) → ObeysIn memory old command answer new → ObeysIn memory (kernel_to old) command answer (kernel_to new)

module _ (kernel_to : KernelParts → KernelParts) (connections_to : List ConnectionParts → List ConnectionParts) (Fits : List ConnectionParts → Type 0) (passes : PassesTold kernel_to connections_to Fits) where
  abbrev pub seen : ServiceParts → ServiceParts
  seen service = record { kernel = kernel_to service.kernel; connections = connections_to service.connections }

  abbrev pub seen_exchange : ExchangeParts → ExchangeParts
  seen_exchange exchange = record { service = seen exchange.service; held = exchange.held }

  told_seen : (place : ℕ) (service : ServiceParts) → Fits service.connections → told_outcome place (seen service) ≡ seen (told_outcome place service)
  told_seen place service fits =
      let outcome = outcome_at service.kernel (connection_at service.connections place).stage in
      let same : outcome_at (kernel_to service.kernel) (connection_at (connections_to service.connections) place).stage ≡ outcome =
      ap (outcome_at (kernel_to service.kernel)) (passes.stage service.connections place) ∙ passes.outcome service.kernel (connection_at service.connections place).stage in
      let version = (connection_at service.connections place).version in
      ap (λ (o : Option OutcomeParts). record { kernel = without_outcome (kernel_to service.kernel) o; connections = slice_set (connections_to service.connections) place (with_outcome o (connection_at (connections_to service.connections) place)) }) same
      ∙ (ap (λ (v : WireVersion). record { kernel = without_outcome (kernel_to service.kernel) outcome; connections = with_more (connections_to service.connections) place (λ s. s) (λ v. v) (text_of (option_map (ipcr_of v) outcome)) }) (passes.version service.connections place)
      ∙ ap₂ (λ (k : KernelParts) (l : List ConnectionParts). record { kernel = k; connections = l }) (passes.taken service.kernel outcome) (passes.more service.connections place (λ s. s) (λ v. v) (text_of (option_map (ipcr_of version) outcome)) fits))

  pub record Delivers (old new changed : ServiceParts) : Type 0 where
    pub is : changed ≡ seen new
    pub fits : Fits new.connections

  delivered_to_seen : (numbers : ℕ) (service : ServiceParts) → Fits service.connections → Delivers service (delivered_to numbers service) (delivered_to numbers (seen service))
  unfolding delivered_to
  delivered_to_seen zero service fits = record { is = refl; fits = fits }
  delivered_to_seen (suc number) service fits =
      let before : ServiceParts = delivered_to number service in
      let first = delivered_to_seen number service fits in
      record {
        is = ap (λ (s : ServiceParts). told_outcome (place_of number s.connections) s) first.is
            ∙ (ap (λ (p : ℕ). told_outcome p (seen before)) (passes.place number before.connections) ∙ told_seen (place_of number before.connections) before first.fits);
        fits = passes.fits_more before.connections (place_of number before.connections) (λ s. s) (λ v. v) _ first.fits;
      }

  pub delivered_seen : (kernel : KernelParts) (connections : List ConnectionParts) → Fits connections → Delivers (record { kernel = kernel; connections = connections }) (delivered kernel connections) (delivered (kernel_to kernel) (connections_to connections))
  unfolding delivered
  delivered_seen kernel connections fits = delivered_to_seen table_slots (record { kernel = kernel; connections = connections }) fits

  module _ (memory : Memory) (obeyed : PassesAsked memory kernel_to) where
    leaves_seen : (old new : KernelParts) (left : Option ℕ) (asked : List Asked) → Leaves memory old left asked new → Leaves memory (kernel_to old) left asked (kernel_to new)
    leaves_seen old new None asked l = (l.0, ap kernel_to l.1)
    leaves_seen old new (Some thread) asked (answer, is, obeys) = (answer, is, obeyed old new (command.Broke thread) answer obeys)

    -- what is told in the one view is told in the other, and the connections still fit
    abbrev TellsSeen : ServiceParts → ℕ → Told → List Asked → ServiceParts → Type 0
    TellsSeen old place told asked new = Tells memory (seen old) place told asked (seen new) × Fits new.connections

    tells_seen : (old new : ServiceParts) (place : ℕ) (told : Told) (asked : List Asked) → Fits old.connections → Tells memory old place told asked new → TellsSeen old place told asked new
    tells_seen old new place told asked fits tells =
        let next : Stage → Stage = λ stage. next_stage stage told in
        let speaks : WireVersion → WireVersion = λ version. next_version version told in
        let text = text_of (reply (connection_at old.connections place).version told) in
        let connections : List ConnectionParts = with_more old.connections place next speaks text in
        let after = delivered_seen tells.kernel connections (passes.fits_more old.connections place next speaks text fits) in (
          record {
            kernel = kernel_to tells.kernel;
            leaves = subst (λ (stage : Stage). Leaves memory (kernel_to old.kernel) (thread_left stage (next_stage stage told)) asked (kernel_to tells.kernel)) (sym (passes.stage old.connections place)) (leaves_seen old.kernel tells.kernel _ asked tells.leaves);
            new_is = ap seen tells.new_is ∙ (sym after.is ∙ ap (λ (l : List ConnectionParts). delivered (kernel_to tells.kernel) l) (sym (ap (λ (v : WireVersion). with_more (connections_to old.connections) place next speaks (text_of (reply v told))) (passes.version old.connections place) ∙ passes.more old.connections place next speaks text fits)));
          },
          subst (λ (s : ServiceParts). Fits s.connections) (sym tells.new_is) after.fits,
        )

    does_seen : (old new : ServiceParts) (place : ℕ) (version : WireVersion) (command : Command) (asked : List Asked) → Fits old.connections → Does memory old place version command asked new → Does memory (seen old) place version command asked (seen new) × Fits new.connections
    does_seen old new place version command asked fits does =
        let tells = tells_seen (record { kernel = does.between; connections = old.connections }) new place (told_of version does.between.moment does.answer) does.rest fits does.tells in (
          record {
            answer = does.answer;
            between = kernel_to does.between;
            obeys = obeyed old.kernel does.between command does.answer does.obeys;
            rest = does.rest;
            asked_is = does.asked_is;
            tells = subst (λ (m : ℕ). Tells memory (record { kernel = kernel_to does.between; connections = connections_to old.connections }) place (told_of version m does.answer) does.rest (seen new)) (sym (passes.moment does.between)) tells.0;
          },
          tells.1,
        )

    by_seen : (reaction : Reaction) (old new : ServiceParts) (place : ℕ) (asked : List Asked) → Fits old.connections → ServesBy memory old place reaction asked new → ServesBy memory (seen old) place reaction asked (seen new) × Fits new.connections
    by_seen Nothing old new place asked fits s = ((s.0, ap seen s.1), subst (λ (x : ServiceParts). Fits x.connections) (sym s.1) fits)
    by_seen (Ask request) old new place asked fits s =
        let does = does_seen old new place (version_asked request One) (command_of request (connection_at old.connections place).space) asked fits s in
        (subst (λ (space : ℕ). Does memory (seen old) place (version_asked request One) (command_of request space) asked (seen new)) (sym (passes.space old.connections place)) does.0, does.1)
    by_seen Leave old new place asked fits s = tells_seen old new place Left asked fits s
    by_seen (Refuse class number) old new place asked fits s = tells_seen old new place (Faulted class number) asked fits s

    serves_seen : (old new : ServiceParts) (place : ℕ) (said : Result Heard FrameFault) (asked : List Asked) → Fits old.connections → Serves memory old place said asked new → Serves memory (seen old) place said asked (seen new) × Fits new.connections
    unfolding Serves
    serves_seen old new place said asked fits s =
        let by = by_seen (asks (connection_at old.connections place).stage said) old new place asked fits s in
        (subst (λ (stage : Stage). ServesBy memory (seen old) place (asks stage said) asked (seen new)) (sym (passes.stage old.connections place)) by.0, by.1)

    all_seen : (said : List (Result Heard FrameFault)) (old new : ServiceParts) (place : ℕ) (asked : List Asked) → Fits old.connections → ServesAll memory old place said asked new → ServesAll memory (seen old) place said asked (seen new) × Fits new.connections
    unfolding Chain
    all_seen [] old new place asked fits s = ((s.0, ap seen s.1), subst (λ (x : ServiceParts). Fits x.connections) (sym s.1) fits)
    all_seen (h ∷ said) old new place asked fits (first, rest, between, is, here, later) =
        let one = serves_seen old between place h first fits here in
        let more = all_seen said between new place rest one.1 later in
        ((first, rest, seen between, is, one.0, more.0), more.1)

    command_seen : (command : Command) (old new : ExchangeParts) (asked : List Asked) → Fits old.service.connections → Commands memory old command asked new → Commands memory (seen_exchange old) command asked (seen_exchange new) × Fits new.service.connections
    command_seen command old new asked fits c =
        let (between, obeys, is) = c.answers in
        let after = delivered_seen between old.service.connections fits in (
          record {
            answer = c.answer;
            service = seen c.service;
            answers = (kernel_to between, obeyed old.service.kernel between command c.answer obeys, ap seen is ∙ sym after.is);
            asked_is = c.asked_is;
            new_is = ap seen_exchange c.new_is;
          },
          subst (λ (x : ExchangeParts). Fits x.service.connections) (sym c.new_is) (subst (λ (s : ServiceParts). Fits s.connections) (sym is) after.fits),
        )

    -- the bytes that are held are the same
    holding_seen : (old : ExchangeParts) (service : ServiceParts) (place : ℕ) (bytes : List ℕ) → seen_exchange (holding old service place bytes) ≡ holding (seen_exchange old) (seen service) place bytes
    holding_seen old service place bytes =
        ap (λ (stage : Stage). record { service = seen service; held = slice_set old.held place (kept stage bytes) }) (sym (passes.stage service.connections place))

    event_seen : (event : Event) (old new : ExchangeParts) (asked : List Asked) → Fits old.service.connections → Happens memory old event asked new → Happens memory (seen_exchange old) event asked (seen_exchange new) × Fits new.service.connections
    event_seen (Connect space) old new asked fits h = (
      (h.0, ap seen_exchange h.1 ∙ ap (λ (l : List ConnectionParts). record { service = record { kernel = kernel_to old.service.kernel; connections = l }; held = old.held ++ [] ∷ [] }) (sym (passes.new old.service.connections space fits))),
      subst (λ (x : ExchangeParts). Fits x.service.connections) (sym h.1) (passes.fits_new old.service.connections space fits),
    )
    event_seen (Piece place piece) old new asked fits h =
        let all = all_seen h.heard old.service h.service place asked fits h.serves in (
          record {
            heard = h.heard;
            hears = h.hears;
            service = seen h.service;
            serves = all.0;
            new_is = ap seen_exchange h.new_is ∙ holding_seen old h.service place (left_in (stream_of Server (held_at old place ++ piece)).end);
          },
          subst (λ (x : ExchangeParts). Fits x.service.connections) (sym h.new_is) all.1,
        )
    event_seen (Finish place) old new asked fits h =
        let one = serves_seen old.service h.service place (heard_at_end (held_at old place)) asked fits h.serves in (
          record { service = seen h.service; serves = one.0; new_is = ap seen_exchange h.new_is ∙ holding_seen old h.service place [] },
          subst (λ (x : ExchangeParts). Fits x.service.connections) (sym h.new_is) one.1,
        )
    event_seen (Reading reading) old new asked fits h = command_seen _ old new asked fits h
    event_seen Copy old new asked fits h = command_seen _ old new asked fits h

    pub events_seen : (events : List Event) (old new : ExchangeParts) (asked : List Asked) → Fits old.service.connections → HappenAll memory old events asked new → HappenAll memory (seen_exchange old) events asked (seen_exchange new) × Fits new.service.connections
    unfolding Chain
    events_seen [] old new asked fits h = ((h.0, ap seen_exchange h.1), subst (λ (x : ExchangeParts). Fits x.service.connections) (sym h.1) fits)
    events_seen (event ∷ events) old new asked fits (first, rest, between, is, here, later) =
        let one = event_seen event old between first fits here in
        let more = events_seen events between new rest one.1 later in
        ((first, rest, seen_exchange between, is, one.0, more.0), more.1)
