use Rattle.std.specs.Prelude.{map}
use Rattle.ipc_waits.specs.Least.{IsLeast}
use Rattle.ipc_waits.specs.Rules.{rule_of}
use Rattle.ipc_waits.specs.Next.{slots_at}
use Rattle.ipc_waits.proofs.waiting.copying.best_among.Given as goal

abbrev pub invariant-loop-wait : goal.invariant-loop-wait
invariant-loop-wait l = IsLeast (rule_of l.rule l.slots.past) (slots_at l.slots.kept.table (map (λ w. w.place) l.waits)) l.wait-index l.best
