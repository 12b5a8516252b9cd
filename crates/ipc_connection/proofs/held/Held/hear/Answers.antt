use Rattle.std.proofs.Common.{◌++◌, ◌∙◌, arith, subst, sym}
use Rattle.ipc_frame.specs.Numbers.{IsBytes}
use Rattle.ipc_connection.proofs.AtLemmas.{held_at, held_whole, some_lost}
use Rattle.ipc_connection.proofs.HearLemmas.{hears_lack}
use Rattle.ipc_connection.proofs.held.Held.hear.Goals as goal

pub returns-then-self-gt0 : goal.returns-then-self-gt0
returns-then-self-gt0 c = λ gone f are whole.
    let h = c.self.inside in
    let inv = c.self.invariant in
    let at = held_at h.start h.payload h.len h.lost gone c.args.self.now f c.front-start.result.now c.as_slice.result.now c.self.view_is c.front-start.ensures.size inv.1 inv.2 are c.front-start.ensures.front c.as_slice.ensures c.are_bytes.ensures whole in
    let some = some_lost h.start h.payload h.len h.lost gone c.args.self.now f c.front-start.result.now c.as_slice.result.now c.self.view_is c.front-start.ensures.size inv.1 inv.2 are c.front-start.ensures.front c.as_slice.ensures c.are_bytes.ensures whole c.if-self-gt0.true in
    hears_lack c.front-start.result.now _ c.lack.result some c.lack.ensures f at

pub hear-requires : goal.hear-requires
hear-requires c =
    let h = c.self.inside in
    let inv = c.self.invariant in
    let r = c.requires in
    (r.1, held_whole h.start h.payload h.len h.lost r.0 c.args.self.now r.1 c.front-start.result.now c.into_bytes.result.items c.self.view_is c.front-start.ensures.size inv.1 inv.2 r.2 c.front-start.ensures.front (c.into_bytes.ensures ∙ c.replace-payload.ensures.value) (subst (λ ys. IsBytes (c.front-start.result.now ++ ys)) (c.as_slice.ensures ∙ sym (c.into_bytes.ensures ∙ c.replace-payload.ensures.value)) c.are_bytes.ensures) r.3 (omega (arith, c.if-self-gt0.false)))

pub returns : goal.returns
returns c = λ gone f are whole.
    let h = c.self.inside in
    let inv = c.self.invariant in
    c.hear.ensures f (held_whole h.start h.payload h.len h.lost gone c.args.self.now f c.front-start.result.now c.into_bytes.result.items c.self.view_is c.front-start.ensures.size inv.1 inv.2 are c.front-start.ensures.front (c.into_bytes.ensures ∙ c.replace-payload.ensures.value) (subst (λ ys. IsBytes (c.front-start.result.now ++ ys)) (c.as_slice.ensures ∙ sym (c.into_bytes.ensures ∙ c.replace-payload.ensures.value)) c.are_bytes.ensures) whole (omega (arith, c.if-self-gt0.false)))
