-- No call failed so far.
use Rattle.std.proofs.Common.{◌≡◌}
use Rattle.ipc_base.specs.Ports.{most_left}
use Rattle.l4sh_look.proofs.follow.follow_lines.Given as goal

abbrev pub invariant-lines : goal.invariant-lines
invariant-lines g l = record {
  read : g.R.PortRead.failures l.reader ≡ g.R.PortRead.failures l.fn.reader;
  written : g.W.PortWrite.failures l.writer ≡ g.W.PortWrite.failures l.fn.writer;
}

abbrev pub decreases-lines : goal.decreases-lines
decreases-lines g l = most_left (g.R.PortRead.reads_left l.reader) l.buffer
