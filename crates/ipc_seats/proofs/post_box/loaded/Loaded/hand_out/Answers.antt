use Rattle.std.proofs.Common.{subst}
use Rattle.ipc_connection.specs.Pens.{Follows, Page, rest_of}
use Rattle.ipc_seats.proofs.Giving.{wrote_one}
use Rattle.ipc_seats.proofs.post_box.loaded.Loaded.hand_out.Goals as goal

pub returns-clause-wrote : goal.returns-clause-wrote
returns-clause-wrote g c =
    wrote_one _ c.self.inside.pen.value _ _ _ _ c.self.view_is c.self.invariant.0 c.self.invariant.1 c.look.ensures.all
    (subst (λ (p : Page). Follows (g.P.PenPort.written c.into_port.result) (rest_of p.rest) p.given) c.into_inner.ensures c.into_port.ensures.follows)
