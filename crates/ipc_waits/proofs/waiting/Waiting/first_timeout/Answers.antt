use Rattle.std.proofs.Common.{◌≡◌, ◌∙◌, sym, ap, subst, option_copied, arith}
use Rattle.ipc_history.specs.Threads.{now}
use Rattle.ipc_waits.proofs.Answering.{first_due}
use Rattle.ipc_waits.specs.Rules.{rule_of}
use Rattle.ipc_waits.specs.declared.rules.Rule.TheVariants.{Expires}
use Rattle.ipc_waits.specs.Queues.{IsLeastWait, until}
use Rattle.ipc_waits.proofs.LeastDue.{due_is_open, least_is_due, none_is_due, now_in_range}
use Rattle.ipc_waits.proofs.MeetingLemmas.{call_there, none_there}
use Rattle.ipc_waits.proofs.waiting.Waiting.first_timeout.Goals as goal

pub returns-in_err-wait : goal.returns-in_err-wait
returns-in_err-wait c =
    let P = c.args.self.now.slots.past in
    let waiting = c.requires in
    let moment : c.now-now.result ≡ now P = c.now-now.ensures in
    let early = now_in_range P c.kept.ensures.legal in
    let least = subst (λ l. IsLeastWait (until c.now-now.result l) c.least_until.result) c.deadlines.ensures c.least_until.ensures in
    c.from_residual.ensures ∙ sym (sym (first_due P c.now-now.result moment) ∙ none_is_due P c.args.self.now.slots.kept c.kept.ensures.legal (rw c.kept.ensures.kept at c.kept.ensures.stands) c.args.self.now.waits.deadlines waiting.waits.deadlines c.now-now.result (omega (arith, moment, early)) (subst (IsLeastWait (until c.now-now.result c.args.self.now.waits.deadlines)) c.in_err-wait.was least))

pub returns-in_err-call : goal.returns-in_err-call
returns-in_err-call c =
    let P = c.args.self.now.slots.past in
    let waiting = c.requires in
    let least = subst (IsLeastWait (until c.now-now.result c.args.self.now.waits.deadlines)) c.in_ok-wait.was (subst (λ l. IsLeastWait (until c.now-now.result l) c.least_until.result) c.deadlines.ensures c.least_until.ensures) in
    let waits = due_is_open P c.args.self.now.slots.kept c.kept.ensures.legal (rw c.kept.ensures.kept at c.kept.ensures.stands) c.args.self.now.waits.deadlines waiting.waits.deadlines c.now-now.result c.in_ok-wait.wait least.0 in
    absurd (none_there P c.args.self.now.slots.kept c.kept.ensures.legal (rw c.kept.ensures.kept at c.kept.ensures.stands) c.in_ok-wait.wait waits (sym c.held.ensures ∙ ap option_copied c.in_err-call.was))

pub apply-requires : goal.apply-requires
apply-requires c =
    let P = c.args.self.now.slots.past in
    let waiting = c.requires in
    let least = subst (IsLeastWait (until c.now-now.result c.args.self.now.waits.deadlines)) c.in_ok-wait.was (subst (λ l. IsLeastWait (until c.now-now.result l) c.least_until.result) c.deadlines.ensures c.least_until.ensures) in
    let waits = due_is_open P c.args.self.now.slots.kept c.kept.ensures.legal (rw c.kept.ensures.kept at c.kept.ensures.stands) c.args.self.now.waits.deadlines waiting.waits.deadlines c.now-now.result c.in_ok-wait.wait least.0 in
    (call_there P c.args.self.now.slots.kept c.kept.ensures.legal (rw c.kept.ensures.kept at c.kept.ensures.stands) c.in_ok-wait.wait waits c.in_ok-call.call.now (sym c.held.ensures ∙ ap option_copied c.in_ok-call.was)).1

pub returns : goal.returns
returns c =
    let P = c.args.self.now.slots.past in
    let waiting = c.requires in
    let moment : c.now-now.result ≡ now P = c.now-now.ensures in
    let early = now_in_range P c.kept.ensures.legal in
    let least = subst (IsLeastWait (until c.now-now.result c.args.self.now.waits.deadlines)) c.in_ok-wait.was (subst (λ l. IsLeastWait (until c.now-now.result l) c.least_until.result) c.deadlines.ensures c.least_until.ensures) in
    let waits = due_is_open P c.args.self.now.slots.kept c.kept.ensures.legal (rw c.kept.ensures.kept at c.kept.ensures.stands) c.args.self.now.waits.deadlines waiting.waits.deadlines c.now-now.result c.in_ok-wait.wait least.0 in
    let number = (call_there P c.args.self.now.slots.kept c.kept.ensures.legal (rw c.kept.ensures.kept at c.kept.ensures.stands) c.in_ok-wait.wait waits c.in_ok-call.call.now (sym c.held.ensures ∙ ap option_copied c.in_ok-call.was)).0 in
    let due = least_is_due P c.args.self.now.slots.kept c.kept.ensures.legal (rw c.kept.ensures.kept at c.kept.ensures.stands) c.args.self.now.waits.deadlines waiting.waits.deadlines c.now-now.result (omega (arith, moment, early)) c.in_ok-wait.wait least in
    c.apply.ensures ∙ (ap (rule_of (Expires c.now-now.result) P) number ∙ (sym due ∙ first_due P c.now-now.result moment))
