use Rattle.std.proofs.Common.{◌≡◌, false, subst, sym}
use Rattle.ipc_client.specs.ClientParts.{ClientParts}
use Rattle.ipc_client.proofs.WireLemmas.{carried_out}
use Rattle.ipc_client.proofs.wire.Wire.say_bye.Goals as goal

pub invariant_of-self : goal.invariant_of-self
invariant_of-self g c =
    carried_out c.write_frame.result _ _ _ _ _ _ _ _ _ c.self.invariant
    (subst (λ (parts : ClientParts). parts.is_closed ≡ false) (sym c.self.view_is) c.requires)
    c.write_frame.ensures.whole c.write_frame.ensures.front c.add.ensures
