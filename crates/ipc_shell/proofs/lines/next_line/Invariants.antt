-- The line so far is of one line, and is what was read.
use Rattle.std.proofs.Common.{◌≡◌, ◌≤◌, length}
use Rattle.std.specs.Io.KnownBytes.{Consumes, prepend_known}
use Rattle.ipc_base.specs.Ports.{most_left}
use Rattle.ipc_base.specs.Lines.{IsOneLine}
use Rattle.ipc_words.specs.Limits.{max_line_bytes}
use Rattle.ipc_shell.proofs.lines.next_line.Given as goal

abbrev pub invariant-reads : goal.invariant-reads
invariant-reads g l = record {
  one : IsOneLine l.line.items;
  short : length l.line.items ≤ max_line_bytes;
  read : Consumes (prepend_known l.fn.buffer (g.P.PortRead.remaining l.fn.port)) (prepend_known l.buffer (g.P.PortRead.remaining l.port)) l.line.items;
  kept : g.P.PortRead.failures l.port ≡ g.P.PortRead.failures l.fn.port;
}

abbrev pub decreases-reads : goal.decreases-reads
decreases-reads g l = most_left (g.P.PortRead.reads_left l.port) l.buffer
