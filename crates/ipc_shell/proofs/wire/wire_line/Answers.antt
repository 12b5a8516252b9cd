use Rattle.std.proofs.Common.{subst}
use Rattle.std.specs.String.{string_bytes}
use Rattle.std.specs.Io.KnownBytes.{Appends}
use Rattle.ipc_base.specs.Ports.{AppendsFront}
use Rattle.ipc_shell.specs.WireCommands.{event_of}
use Rattle.ipc_shell.proofs.WireLemmas.{line_goes_on, line_cut_off}
use Rattle.ipc_shell.proofs.wire.wire_line.Goals as goal

pub returns-in-Ok-put-clause-ends : goal.returns-in-Ok-put-clause-ends
returns-in-Ok-put-clause-ends g c =
    let before = g.W.PortWrite.written c.args.writer.now in
    let after = g.W.PortWrite.written c.put.new.port in
    line_goes_on c.args.exchange.now c.obey.new.exchange c.answer.new.exchange (event_of c.in-Some.command) c.in-Some-obey.obeyed c.args.line.now (string_bytes c.in-Ok-answer.text) c.args.number before after
    (rw c.in-Some.is at c.in-Ok.ensures.found) c.in-Some-obey.ensures.obeys c.in-Ok-answer.ensures
    (subst (Appends before after) c.as_bytes.ensures.value c.in-Ok-put.ensures.whole)

pub returns-clause-ends : goal.returns-clause-ends
returns-clause-ends g c =
    let before = g.W.PortWrite.written c.args.writer.now in
    let after = g.W.PortWrite.written c.put.new.port in
    line_cut_off c.args.exchange.now c.obey.new.exchange c.answer.new.exchange (event_of c.in-Some.command) c.in-Some-obey.obeyed c.args.line.now (string_bytes c.in-Ok-answer.text) c.args.number before after
    (rw c.in-Some.is at c.in-Ok.ensures.found) c.in-Some-obey.ensures.obeys c.in-Ok-answer.ensures
    (subst (AppendsFront before after) c.as_bytes.ensures.value c.in-Err.ensures.part)
