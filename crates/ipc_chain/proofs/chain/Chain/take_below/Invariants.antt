use Rattle.std.proofs.Common.{◌≡◌}
use Rattle.ipc_chain.specs.Judging.{TakesBelow}
use Rattle.ipc_chain.proofs.chain.Chain.take_below.Given as goal

abbrev pub invariant-loop-place : goal.invariant-loop-place
invariant-loop-place l = record {
  past : l.self.past ≡ l.initial.self.past;
  told : l.self.told ≡ l.initial.self.told;
  taken : TakesBelow l.initial.self.past l.callers l.place l.initial.self.taken l.self.taken;
}
