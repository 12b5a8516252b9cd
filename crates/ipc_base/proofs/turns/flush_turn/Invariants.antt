-- Nothing was written so far.
use Rattle.std.specs.Io.KnownBytes.{Keeps}
use Rattle.ipc_base.proofs.turns.flush_turn.Given as goal

abbrev pub invariant-turns : goal.invariant-turns
invariant-turns g l = Keeps (g.W.Write.contents l.fn.writer) (g.W.Write.contents l.writer)
