use Rattle.std.proofs.Common.{◌≡◌, ◌++◌, map, ap, ◌∙◌}
use Rattle.std.specs.List.{flat_map}
use Rattle.std.proofs.lemmas.Result.{IfOk-at_ok}
use Rattle.std.proofs.lemmas.Iterator.Adapters.{fact_from_extend}
use Rattle.std.proofs.lemmas.Iterator.Consumers.{YieldsList-from_first}
use Rattle.ipc_items.specs.Pieces.{pieces_of_all}
use Rattle.ipc_items.specs.Placed.{placed}
use Rattle.ipc_items.proofs.scattering.scatter_all.Goals as goal

pub returns : goal.returns
returns c =
    IfOk-at_ok (λ _. map placed c.extend.new.self.items ≡ flat_map (λ ps. ps) (pieces_of_all c.args.buffers.now c.args.strings.now)) c.in_ok-extend.was
    (fact_from_extend placed c.extend.result c.extend.ensures.ran (λ it b. YieldsList-from_first placed (λ rest. rest) (flat_map (λ ps. ps) (pieces_of_all c.args.buffers.now c.args.strings.now)) (b ∙ c.new.ensures))
    (λ xs e h. ap (λ ys. map placed ys) h.0 ∙ ap (λ ys. map placed (ys ++ xs)) c.new-pieces.ensures.items ∙ e))
