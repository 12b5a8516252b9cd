use Rattle.ipc_waits.proofs.CandidateLemmas.{Added}
use Rattle.ipc_waits.proofs.candidates.Candidates.add_all.Given as goal

abbrev pub invariant-loop-wait : goal.invariant-loop-wait
invariant-loop-wait l = Added l.initial.self l.waits l.wait-index l.self
