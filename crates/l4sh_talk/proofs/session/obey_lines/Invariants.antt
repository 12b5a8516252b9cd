-- No call failed so far, and the lines that were read were obeyed.
use Rattle.std.proofs.Common.{◌≡◌, ℕ}
use Rattle.std.specs.Io.KnownBytes.{prepend_known}
use Rattle.ipc_base.specs.Ports.{most_left}
use Rattle.l4sh_talk.specs.Talks.{HasTalked, talk_of}
use Rattle.l4sh_talk.proofs.session.obey_lines.Given as goal

abbrev pub invariant-lines : goal.invariant-lines
invariant-lines g l = record {
  read : g.R.PortRead.failures l.reader ≡ g.R.PortRead.failures l.fn.reader;
  written : g.W.PortWrite.failures l.writer ≡ g.W.PortWrite.failures l.fn.writer;
  talked : (count : ℕ) × HasTalked count
      (talk_of (g.R.PortRead.remaining l.fn.reader) l.fn.client (g.W.PortWrite.written l.fn.writer))
      (talk_of (prepend_known l.buffer (g.R.PortRead.remaining l.reader)) l.client (g.W.PortWrite.written l.writer));
}

abbrev pub decreases-lines : goal.decreases-lines
decreases-lines g l = most_left (g.R.PortRead.reads_left l.reader) l.buffer
