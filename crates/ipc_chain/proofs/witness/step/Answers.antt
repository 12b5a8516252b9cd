use Rattle.ipc_chain.proofs.Walking.{first_more}
use Rattle.ipc_chain.proofs.witness.step.Goals as goal

pub returns-in-None : goal.returns-in-None
returns-in-None c = record { first = λ follows. first_more c.args.chain.now c.go_on.new.self c.args.entry c.legal.ensures (c.in_ok-go_on.ensures.on c.in-None.is) c.requires.first }
