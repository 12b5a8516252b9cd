use Rattle.std.proofs.Common.{◌≡◌, ◌+◌, ◌==◌, length, subst, ap, ◌∙◌}
use Rattle.ipc_connection.specs.Holding.{Kept}
use Rattle.ipc_connection.proofs.HeldLemmas.{empty_is}
use Rattle.ipc_connection.proofs.held.Held.is_empty.Goals as goal

pub returns : goal.returns
returns c =
    let h = c.self.inside in
    subst (λ (k : Kept). c.is_empty.result ≡ (length k.bytes + k.lost == 0)) c.self.view_is (c.is_empty.ensures ∙ (ap (λ xs. length xs == 0) c.front.ensures.front ∙ empty_is h.len h.lost h.start h.payload c.front.ensures.size (λ some. (c.self.invariant.2 some).0)))
