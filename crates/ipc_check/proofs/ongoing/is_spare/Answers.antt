use Rattle.std.proofs.Common.{◌∙◌, sym}
use Rattle.ipc_check.proofs.Going.{if_not, spare_is}
use Rattle.ipc_check.specs.Ongoing.{IsSpare}
use Rattle.ipc_check.proofs.ongoing.is_spare.Goals as goal

pub returns-in-Some : goal.returns-in-Some
returns-in-Some c =
    let P = c.args.slots.now.past in
    let held = c.args.held.now in
    let kept = c.kept-kept in
    let at = c.in-Some.ensures.lookup.3 in
    if_not (IsSpare P held c.args.place) c.is_held_call.result
    (λ free. spare_is P held c.args.place c.in-Some.entry.now kept.ensures.legal kept.result.now.table kept.ensures.stands.table c.requires at.0 (λ d. sym (at.1 d)) (sym c.is_held_call.ensures ∙ free))
