use Rattle.std.proofs.Common.{◌≡◌, sym, false, arith}
use Rattle.std.proofs.lemmas.List.Elements.{All-from_all_within, All-get_or}
use Rattle.std.proofs.lemmas.List.Folds.{list_any_none}
use Rattle.ipc_waits.specs.Next.{IsOpenAt}
use Rattle.ipc_waits.specs.Resting.{lets_wait_in}
use Rattle.ipc_waits.proofs.waiting.resting.lets_any_in.Goals as goal

pub lets_one_in-requires-clause-sender : goal.lets_one_in-requires-clause-sender
lets_one_in-requires-clause-sender c = All-get_or (IsOpenAt c.args.slots.now.past) c.args.senders.now c.loop-sender.sender-index _ c.loop-sender-test.true c.requires.senders

pub returns : goal.returns
returns c =
    let all = c.loop-sender-test.false in
    sym (list_any_none (lets_wait_in c.args.slots.now.past c.args.from c.args.thread) c.args.senders.now (All-from_all_within (λ w. lets_wait_in c.args.slots.now.past c.args.from c.args.thread w ≡ false) c.args.senders.now (λ k d low high. c.loop-sender.invariant k d low (omega (arith, all)))))
