use Rattle.ipc_waits.specs.Least.{IsLeast}
use Rattle.ipc_waits.specs.Rules.{rule_of}
use Rattle.ipc_waits.specs.Next.{slots_at}
use Rattle.ipc_waits.proofs.next.best_at.Given as goal

abbrev pub invariant-loop-place : goal.invariant-loop-place
invariant-loop-place l = IsLeast (rule_of l.rule l.slots.past) (slots_at l.slots.kept.table l.places) l.place-index l.best
