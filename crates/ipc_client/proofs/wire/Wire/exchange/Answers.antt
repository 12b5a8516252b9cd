use Rattle.std.proofs.Common.{◌≡◌, false, subst, sym}
use Rattle.ipc_client.specs.ClientParts.{ClientParts}
use Rattle.ipc_client.proofs.WireLemmas.{carried_answer, carried_torn}
use Rattle.ipc_client.proofs.wire.Wire.exchange.Goals as goal

pub invariant_of-self-in-Ok : goal.invariant_of-self-in-Ok
invariant_of-self-in-Ok g c =
    carried_answer _ _ _ _ _ _ _ _ _ _ c.args.frame c.in-Ok.answered c.self.invariant
    (subst (λ (parts : ClientParts). parts.is_closed ≡ false) (sym c.self.view_is) c.requires)
    c.in_default.ensures.whole c.in-Ok.ensures.ok c.add.ensures c.add-in-Ok.ensures

pub invariant_of-self-in-Err-read_frame : goal.invariant_of-self-in-Err-read_frame
invariant_of-self-in-Err-read_frame g c =
    carried_torn _ _ _ _ _ _ _ _ _ c.args.frame c.in-Err-read_frame.fault c.self.invariant
    (subst (λ (parts : ClientParts). parts.is_closed ≡ false) (sym c.self.view_is) c.requires)
    c.in_default.ensures.whole c.in-Err-read_frame.ensures.err c.add.ensures
