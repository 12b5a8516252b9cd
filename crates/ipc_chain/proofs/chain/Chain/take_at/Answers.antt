use Rattle.std.proofs.Common.{sym}
use Rattle.ipc_threads.proofs.Holders.{live_of_is}
use Rattle.ipc_chain.proofs.Taking.{below_apart, below_nobody}
use Rattle.ipc_chain.proofs.chain.Chain.take_at.Goals as goal

pub take_apart-requires : goal.take_apart-requires
take_apart-requires c = (live_of_is c.args.self.now.past c.args.place c.in-Some.thread (sym c.in-Some.ensures)).live

pub returns-in_ok-take_apart-in-Some-clause-taken : goal.returns-in_ok-take_apart-in-Some-clause-taken
returns-in_ok-take_apart-in-Some-clause-taken c = λ before was. below_apart c.args.self.now.past c.args.callers.now c.args.place before c.args.self.now.taken c.take_apart.new.self.taken c.in-Some.thread c.legal.ensures c.in-Some.ensures c.in_ok-take_apart-in-Some.ensures.apart c.in_ok-take_apart-in-Some.ensures.taken was

pub returns-in-None-clause-taken : goal.returns-in-None-clause-taken
returns-in-None-clause-taken c = λ before was. below_nobody c.args.self.now.past c.args.callers.now c.args.place before c.args.self.now.taken c.legal.ensures c.in-None.ensures was
