-- Nothing was taken so far.
use Rattle.std.specs.Io.KnownBytes.{Keeps}
use Rattle.ipc_base.proofs.turns.read_turn.Given as goal

abbrev pub invariant-turns : goal.invariant-turns
invariant-turns g l = Keeps (g.R.Read.remaining l.fn.reader) (g.R.Read.remaining l.reader)
