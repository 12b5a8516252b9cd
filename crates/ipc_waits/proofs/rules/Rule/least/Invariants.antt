use Rattle.ipc_waits.specs.Rules.{rule_of}
use Rattle.ipc_waits.specs.Least.{IsLeast}
use Rattle.ipc_waits.proofs.rules.Rule.least.Given as goal

abbrev pub invariant-loop-place : goal.invariant-loop-place
invariant-loop-place l = IsLeast (rule_of l.self l.slots.past) l.slots.kept.table l.place l.best
