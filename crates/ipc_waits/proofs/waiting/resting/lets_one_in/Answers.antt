use Rattle.std.proofs.Common.{◌∙◌, sym, ap, option_copied}
use Rattle.ipc_history.specs.Matching.{shown_sender}
use Rattle.ipc_laws.specs.Exchange.{lets_in}
use Rattle.ipc_waits.proofs.MeetingLemmas.{call_there, none_there}
use Rattle.ipc_waits.proofs.waiting.resting.lets_one_in.Goals as goal

pub unreachable-requires : goal.unreachable-requires
unreachable-requires c = none_there c.args.slots.now.past c.args.slots.now.kept c.kept.ensures.legal (rw c.kept.ensures.kept at c.kept.ensures.stands) c.args.sender.now c.requires.sender (sym c.held.ensures ∙ ap option_copied c.in_default.is)

pub lets_in-requires-clause-call : goal.lets_in-requires-clause-call
lets_in-requires-clause-call c = (call_there c.args.slots.now.past c.args.slots.now.kept c.kept.ensures.legal (rw c.kept.ensures.kept at c.kept.ensures.stands) c.args.sender.now c.requires.sender c.in-Some.call.now (sym c.held.ensures ∙ ap option_copied c.in-Some.is)).1

pub returns : goal.returns
returns c =
    let number = (call_there c.args.slots.now.past c.args.slots.now.kept c.kept.ensures.legal (rw c.kept.ensures.kept at c.kept.ensures.stands) c.args.sender.now c.requires.sender c.in-Some.call.now (sym c.held.ensures ∙ ap option_copied c.in-Some.is)).0 in
    c.lets_in.ensures ∙ ap (λ n. lets_in c.args.slots.now.past c.args.from c.args.thread (shown_sender c.args.slots.now.past n)) number
