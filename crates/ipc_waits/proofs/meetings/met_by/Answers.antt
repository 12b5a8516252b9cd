use Rattle.std.proofs.Common.{sym, ◌∙◌, ap, option_copied}
use Rattle.ipc_waits.proofs.Meets.{met_law}
use Rattle.ipc_waits.proofs.meetings.met_by.Goals as goal

pub returns-then-not-may_meet : goal.returns-then-not-may_meet
returns-then-not-may_meet c =
    let kept = c.kept-kept in
    let law = met_law c.args.slots.now.past kept.result.now kept.ensures.legal kept.ensures.stands c.args.call.now c.requires in
    rw (sym c.may_meet.ensures ∙ c.if-not-may_meet.true) at law

pub returns-in_err-receiving : goal.returns-in_err-receiving
returns-in_err-receiving c =
    let kept = c.kept-kept in
    let law = met_law c.args.slots.now.past kept.result.now kept.ensures.legal kept.ensures.stands c.args.call.now c.requires in
    let may = sym c.may_meet.ensures ∙ c.if-not-may_meet.false in
    ap option_copied c.from_residual.ensures ∙ (rw (may, sym c.call_of.ensures ∙ ap option_copied c.in_err-receiving.was) at law)

pub returns-then-awaits : goal.returns-then-awaits
returns-then-awaits c =
    let kept = c.kept-kept in
    let law = met_law c.args.slots.now.past kept.result.now kept.ensures.legal kept.ensures.stands c.args.call.now c.requires in
    let may = sym c.may_meet.ensures ∙ c.if-not-may_meet.false in
    let there = sym c.call_of.ensures ∙ ap option_copied c.in_ok-receiving.was in
    rw (may, there, sym c.are_local.ensures, sym c.awaits.ensures ∙ c.if-awaits.true) at law

pub returns-else-awaits : goal.returns-else-awaits
returns-else-awaits c =
    let kept = c.kept-kept in
    let law = met_law c.args.slots.now.past kept.result.now kept.ensures.legal kept.ensures.stands c.args.call.now c.requires in
    let may = sym c.may_meet.ensures ∙ c.if-not-may_meet.false in
    let there = sym c.call_of.ensures ∙ ap option_copied c.in_ok-receiving.was in
    rw (may, there, sym c.are_local.ensures, sym c.awaits.ensures ∙ c.if-awaits.false) at law
