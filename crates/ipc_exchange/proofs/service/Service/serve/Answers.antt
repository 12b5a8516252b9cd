use Rattle.std.proofs.Common.{◌∙◌, ap, sym}
use Rattle.ipc_connection.specs.Asking.{asks}
use Rattle.ipc_exchange.specs.Rooms.{RoomyService, stage_at}
use Rattle.ipc_exchange.proofs.TellingLemmas.{can_react, serves_by}
use Rattle.ipc_exchange.proofs.service.Service.serve.Goals as goal

pub react-requires : goal.react-requires
react-requires c = can_react c.args.self.now _ _ _ _ c.requires (sym (c.stage-stage.ensures ∙ ap (λ (s : RoomyService). stage_at s.connections c.args.place) c.self.view_is)) c.asks-reaction.ensures

pub returns-clause-served : goal.returns-clause-served
returns-clause-served c = serves_by c.args.self.now c.react.new.self _ _ _ (c.asks-reaction.ensures ∙ ap (λ t. asks t c.args.heard) (c.stage-stage.ensures ∙ ap (λ (s : RoomyService). stage_at s.connections c.args.place) c.self.view_is)) c.react.ensures.served
