-- The lines that were obeyed so far, and what was printed for them; no call failed.
use Rattle.std.proofs.Common.{◌≡◌, true}
use Rattle.std.specs.Io.KnownBytes.{prepend_known}
use Rattle.ipc_exchange.specs.Events.{ExchangeParts}
use Rattle.ipc_exchange.specs.Exchange.{Shows}
use Rattle.ipc_shell.proofs.WireLemmas.{WiredSoFar}
use Rattle.ipc_shell.proofs.wire.wire_lines.Given as goal

abbrev pub invariant-lines : goal.invariant-lines
invariant-lines g l = record {
  so_far : (parts : ExchangeParts) → Shows l.fn.exchange parts
      → WiredSoFar parts (prepend_known l.fn.buffer (g.R.PortRead.remaining l.fn.reader)) (prepend_known l.buffer (g.R.PortRead.remaining l.reader))
      (g.W.PortWrite.written l.fn.writer) (g.W.PortWrite.written l.writer) l.exchange l.number;
  read : g.R.PortRead.failures l.reader ≡ g.R.PortRead.failures l.fn.reader;
  written : g.W.PortWrite.failures l.writer ≡ g.W.PortWrite.failures l.fn.writer;
  flushed : g.W.PortWrite.flushed l.fn.writer ≡ true → g.W.PortWrite.flushed l.writer ≡ true;
}
