use Rattle.ipc_desks.proofs.PassedDesks.{pass_finishes, pass_legal, pass_quiet}
use Rattle.ipc_desks.proofs.desks.Desks.note_pass.Goals as goal

pub pass-requires-clause-begins : goal.pass-requires-clause-begins
pass-requires-clause-begins c = rw c.requires.past c.requires.begins

pub pass-requires-clause-ends : goal.pass-requires-clause-ends
pass-requires-clause-ends c = rw c.requires.past c.requires.ends

pub pass-requires-clause-keeps : goal.pass-requires-clause-keeps
pass-requires-clause-keeps c = let past = rw (← c.self.view_is) at c.requires.past in rw past c.self.invariant.keeps

pub invariant_of-self : goal.invariant_of-self
invariant_of-self c =
    let begins = rw (← c.self.view_is) at c.requires.begins in
    let ends = rw (← c.self.view_is) at c.requires.ends in
    let past = rw (← c.self.view_is) at c.requires.past in
    let sender = rw past at c.call_held-sender.ensures.call in
    let keeps = rw past at c.pass.ensures in
    rw (c.add-2.ensures, c.add.ensures, c.requires.began, c.requires.ended) (record {
      legal = pass_legal c.self.inside.past c.args.pair.sending c.args.pair.receiving c.self.invariant.legal begins ends c.call_held-sender.result.now sender;
      keeps = keeps;
    })

pub returns-clause-unfinished : goal.returns-clause-unfinished
returns-clause-unfinished c t =
    let sender = rw c.requires.past at c.call_held-sender.ensures.call in
    rw c.requires.began (pass_quiet c.args.self.now.past c.args.pair.sending c.args.pair.receiving c.kept.ensures.legal c.requires.begins c.requires.ends c.call_held-sender.result.now sender c.args.self.now.taken c.kept.result.now c.kept.ensures.keeps t)

pub returns-clause-finished : goal.returns-clause-finished
returns-clause-finished c t =
    let sender = rw c.requires.past at c.call_held-sender.ensures.call in
    let receiver = rw c.requires.past at c.call_held-receiver.ensures.call in
    rw (c.over_with.ensures, c.requires.began, c.requires.ended) (pass_finishes c.args.self.now.past c.args.pair.sending c.args.pair.receiving c.kept.ensures.legal c.requires.begins c.requires.ends c.call_held-sender.result.now sender c.call_held-receiver.result.now receiver t)
