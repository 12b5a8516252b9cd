use Rattle.std.proofs.Common.{sym, ◌∙◌, ap, option_copied}
use Rattle.ipc_waits.proofs.Lasts.{turn_law}
use Rattle.ipc_waits.proofs.last.turn_of.Goals as goal

pub returns-then-eq : goal.returns-then-eq
returns-then-eq c =
    let law = turn_law c.args.slots.now.past c.kept.ensures.legal c.args.call.now c.requires in
    rw (sym c.eq.ensures ∙ c.if-eq.true) at law

pub returns-in_err-waiting : goal.returns-in_err-waiting
returns-in_err-waiting c =
    let law = turn_law c.args.slots.now.past c.kept.ensures.legal c.args.call.now c.requires in
    c.from_residual.ensures ∙ (rw (sym c.eq.ensures ∙ c.if-eq.false, sym c.call_of.ensures ∙ ap option_copied c.in_err-waiting.was) at law)

pub returns : goal.returns
returns c =
    let law = turn_law c.args.slots.now.past c.kept.ensures.legal c.args.call.now c.requires in
    c.turn.ensures ∙ (rw (sym c.eq.ensures ∙ c.if-eq.false, sym c.call_of.ensures ∙ ap option_copied c.in_ok-waiting.was) at law)
