use Rattle.std.proofs.Common.{sym, ap, ◌∙◌}
use Rattle.ipc_waits.specs.Rules.{turn_of}
use Rattle.ipc_waits.proofs.Lasts.{began_open, began_turn}
use Rattle.ipc_threads.proofs.Holders.{slot_call}
use Rattle.ipc_waits.proofs.last.turn_began.Goals as goal

pub place_of-place-requires : goal.place_of-place-requires
place_of-place-requires c = began_open c.args.slots.now.past c.kept-kept.ensures.legal c.args.sending c.args.receiving c.requires

pub turn_of-requires : goal.turn_of-requires
turn_of-requires c =
    let kept = c.kept-kept in
    let holds = rw (← kept.ensures.kept) at c.place_of-place.ensures.holds in
    let there = sym c.call_at.ensures ∙ c.in-Some.is in
    let P = c.args.slots.now.past in
    (slot_call P kept.result.now kept.ensures.stands c.place_of-place.result c.args.sending holds c.in-Some.call there).0

pub returns : goal.returns
returns c =
    let kept = c.kept-kept in
    let holds = rw (← kept.ensures.kept) at c.place_of-place.ensures.holds in
    let there = sym c.call_at.ensures ∙ c.in-Some.is in
    let P = c.args.slots.now.past in
    let call = (slot_call P kept.result.now kept.ensures.stands c.place_of-place.result c.args.sending holds c.in-Some.call there).1 in
    c.turn_of.ensures ∙ (ap (turn_of P) call ∙ sym (began_turn P c.args.sending c.args.receiving))
