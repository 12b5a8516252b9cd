use Rattle.std.proofs.Common.{◌≡◌, drop}
use Rattle.ipc_history.specs.Keeping.{keeps_at}
use Rattle.ipc_history.proofs.keeping.keeps_at.Given as goal

abbrev pub invariant-loop-entry : goal.invariant-loop-entry
invariant-loop-entry g l = keeps_at (g.K.Keeps.test l.keeps) l.rest ≡ keeps_at (g.K.Keeps.test l.keeps) (drop l.entry-index l.rest)
