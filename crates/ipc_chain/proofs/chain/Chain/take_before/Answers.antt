use Rattle.ipc_laws.proofs.Calling.{alive}
use Rattle.ipc_chain.proofs.Others.{caller_idle, caller_sure}
use Rattle.ipc_chain.proofs.chain.Chain.take_before.Goals as goal

pub take-requires : goal.take-requires
take-requires c = alive c.args.self.now.past c.args.number c.args.caller c.args.call.now c.legal.ensures c.requires

pub returns-clause-idle : goal.returns-clause-idle
returns-clause-idle c = caller_idle c.args.self.now.past c.legal.ensures c.args.number c.args.caller c.args.call.now c.requires _ _ c.in_ok-take.ensures.taken

pub returns-clause-taken : goal.returns-clause-taken
returns-clause-taken c = caller_sure c.args.self.now.past c.legal.ensures c.args.number c.args.caller c.args.call.now c.requires _ _ c.in_ok-take.ensures.taken
