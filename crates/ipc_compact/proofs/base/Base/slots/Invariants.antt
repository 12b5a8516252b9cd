use Rattle.ipc_compact.specs.Making.{IsCompactOf}
use Rattle.ipc_compact.proofs.Rebuilding.{IsMadeTo}
use Rattle.ipc_compact.proofs.base.Base.slots.Given as goal

abbrev pub ghost-of : goal.ghost-of
ghost-of g l = g.before.past

abbrev pub invariant-loop-place : goal.invariant-loop-place
invariant-loop-place g l = (is : IsCompactOf l.self l.kept g.before) → IsMadeTo l.self l.kept g.before is l.place l.slots
