use Rattle.std.proofs.Common.{sym, ap, ◌∙◌, option_copied}
use Rattle.ipc_history.specs.Threads.{is_live}
use Rattle.ipc_waits.specs.Rules.{in_send_by}
use Rattle.ipc_waits.proofs.Answering.{send_told}
use Rattle.ipc_waits.proofs.phases.is_in_send_phase.Goals as goal

pub returns-in-Some : goal.returns-in-Some
returns-in-Some c =
    let live = c.is_live.ensures ∙ ap (is_live c.args.slots.now.past) c.partner.ensures in
    let told = send_told c.args.slots.now.past c.kept.ensures.legal c.args.thread _ (sym (ap option_copied c.in-Some.is) ∙ c.call_of.ensures) in
    c.is_sending.ensures ∙ (ap (λ b. in_send_by b c.in-Some.call.now) live ∙ told)

pub returns-in-None : goal.returns-in-None
returns-in-None c = send_told c.args.slots.now.past c.kept.ensures.legal c.args.thread _ (sym (ap option_copied c.in-None.is) ∙ c.call_of.ensures)
