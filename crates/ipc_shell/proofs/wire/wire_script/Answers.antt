use Rattle.std.proofs.Common.{◌+◌, subst}
use Rattle.ipc_shell.specs.Failing.{HasFailed}
use Rattle.ipc_shell.specs.Wiring.{WiresScript, first_exchange}
use Rattle.ipc_shell.proofs.RunLemmas.{prepend_none}
use Rattle.ipc_shell.proofs.wire.wire_script.Goals as goal

pub returns-clause-wires : goal.returns-clause-wires
returns-clause-wires g c =
    let start = first_exchange c.args.limits in
    let before = g.W.PortWrite.written c.args.writer.now in
    let after = g.W.PortWrite.written c.wire_lines.new.writer in
    subst (λ bytes. WiresScript start bytes before after c.wire_lines.result) (prepend_none c.new-buffer.result (g.R.PortRead.remaining c.args.reader.now) c.new-buffer.ensures)
    (c.wire_lines.ensures.wires start c.in-Ok.ensures)

pub returns-clause-device : goal.returns-clause-device
returns-clause-device g c = λ is.
    let before = g.R.PortRead.failures c.args.reader.now + g.W.PortWrite.failures c.args.writer.now in
    let after = g.R.PortRead.failures c.wire_lines.new.reader + g.W.PortWrite.failures c.wire_lines.new.writer in
    subst (HasFailed before after) (prepend_none c.new-buffer.result (g.R.PortRead.remaining c.args.reader.now) c.new-buffer.ensures)
    (c.wire_lines.ensures.device (first_exchange c.args.limits) c.in-Ok.ensures is)
