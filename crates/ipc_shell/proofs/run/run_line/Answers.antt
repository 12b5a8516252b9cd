use Rattle.std.proofs.Common.{subst}
use Rattle.std.specs.String.{string_bytes}
use Rattle.ipc_base.specs.Ports.{AppendsFront}
use Rattle.ipc_shell.proofs.run.run_line.Goals as goal

pub returns-clause-ends : goal.returns-clause-ends
returns-clause-ends g c =
    let before = g.W.PortWrite.written c.args.writer.now in
    let after = g.W.PortWrite.written c.put.new.port in
    (string_bytes c.in-Some.text, rw c.in-Some.is at c.in-Ok.ensures.found, subst (AppendsFront before after) c.as_bytes.ensures.value c.in-Err.ensures.part)
