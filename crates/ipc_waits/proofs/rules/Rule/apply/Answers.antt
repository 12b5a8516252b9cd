use Rattle.std.proofs.Common.{sym, ap, ◌∙◌}
use Rattle.ipc_waits.specs.Rules.{rule_of, end_by, failure_by, abort_by}
use Rattle.ipc_waits.proofs.Stops.{abort_told}
use Rattle.ipc_waits.proofs.PhaseRules.{end_at, partner_at, small_at, timeout_at}
use Rattle.ipc_history.specs.Threads.{is_live}
use Rattle.ipc_waits.proofs.rules.Rule.apply.Goals as goal

pub returns-in-Ends : goal.returns-in-Ends
returns-in-Ends c =
    let call = c.args.call.now in
    let rule = ap (λ r. rule_of r c.args.slots.now.past call.number) (sym c.in-Ends.is) in
    let law = end_at c.args.slots.now.past c.kept.ensures.legal call c.requires in
    c.end.ensures ∙ (ap (λ b. end_by b call) c.is_live.ensures ∙ (law ∙ rule))

pub returns-in-Expires : goal.returns-in-Expires
returns-in-Expires c =
    let call = c.args.call.now in
    let rule = ap (λ r. rule_of r c.args.slots.now.past call.number) (sym c.in-Expires.is) in
    c.timeout.ensures ∙ (timeout_at c.args.slots.now.past c.kept.ensures.legal _ call c.requires ∙ rule)

pub returns-in-Copies : goal.returns-in-Copies
returns-in-Copies c =
    let call = c.args.call.now in
    let rule = ap (λ r. rule_of r c.args.slots.now.past call.number) (sym c.in-Copies.is) in
    let law = abort_told c.args.slots.now.past c.kept.ensures.legal call c.requires in
    c.abort.ensures ∙ (ap (λ b. abort_by b call) c.is_live-in-Copies.ensures ∙ (law ∙ rule))

pub failure-requires : goal.failure-requires
failure-requires c = small_at c.args.slots.now.past c.kept.ensures.legal c.args.call.now c.requires

pub returns-in-Fails : goal.returns-in-Fails
returns-in-Fails c =
    let call = c.args.call.now in
    let rule = ap (λ r. rule_of r c.args.slots.now.past call.number) (sym c.in-Fails.is) in
    let law = partner_at c.args.slots.now.past c.kept.ensures.legal call c.requires in
    let live = c.is_live-in-Fails.ensures ∙ ap (is_live c.args.slots.now.past) c.partner.ensures in
    c.failure.ensures ∙ (ap (λ b. failure_by b call) live ∙ (law ∙ rule))
