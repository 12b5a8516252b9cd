use Rattle.ipc_chain.specs.Judging.{IsFirstFile}
use Rattle.ipc_chain.proofs.witness.seek.Given as goal

abbrev pub invariant-turns : goal.invariant-turns
invariant-turns l = IsFirstFile l.chain
