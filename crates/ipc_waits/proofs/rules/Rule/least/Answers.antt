use Rattle.ipc_waits.specs.Rules.{rule_of}
use Rattle.ipc_waits.proofs.Betters.{least_better}
use Rattle.ipc_waits.proofs.LeastLemmas.{least_start, least_told}
use Rattle.ipc_waits.proofs.rules.Rule.least.Goals as goal

pub loop-place-init : goal.loop-place-init
loop-place-init c = least_start (rule_of c.args.self.now c.args.slots.now.past) c.args.slots.now.kept.table

pub loop-place-preserved : goal.loop-place-preserved
loop-place-preserved c =
    let loop = c.loop-place in
    let rule = rule_of c.args.self.now c.args.slots.now.past in
    rw c.better-best.ensures (least_better rule c.args.slots.now.kept.table loop.place loop.best loop.invariant)

pub returns-in-None : goal.returns-in-None
returns-in-None c =
    let loop = c.loop-place in
    let slots = c.args.slots.now in
    let stands = rw c.kept.ensures.kept at c.kept.ensures.stands in
    let all = rw (c.top-place-end.ensures, c.kept.ensures.kept) at c.loop-place-test.false in
    least_told slots.past slots.kept c.args.self.now loop.place loop.best _ c.kept.ensures.legal stands all loop.invariant c.in-None.is

pub returns-in-Some : goal.returns-in-Some
returns-in-Some c =
    let loop = c.loop-place in
    let slots = c.args.slots.now in
    let stands = rw c.kept.ensures.kept at c.kept.ensures.stands in
    let all = rw (c.top-place-end.ensures, c.kept.ensures.kept) at c.loop-place-test.false in
    least_told slots.past slots.kept c.args.self.now loop.place loop.best _ c.kept.ensures.legal stands all loop.invariant c.in-Some.is
