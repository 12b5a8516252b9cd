use Rattle.std.proofs.Common.{◌+◌, subst}
use Rattle.ipc_shell.specs.Failing.{HasFailed}
use Rattle.ipc_shell.specs.Running.{RunsScript}
use Rattle.ipc_shell.proofs.RunLemmas.{prepend_none}
use Rattle.ipc_shell.proofs.run.run_script.Goals as goal

pub returns-clause-runs : goal.returns-clause-runs
returns-clause-runs g c =
    let bytes = g.R.PortRead.remaining c.args.reader.now in
    let before = g.W.PortWrite.written c.args.writer.now in
    let after = g.W.PortWrite.written c.run_lines.new.writer in
    subst (λ kernel. RunsScript kernel bytes before after c.run_lines.result) c.in-Ok.ensures
    (subst (λ bytes. RunsScript c.in-Ok.kernel bytes before after c.run_lines.result) (prepend_none c.new-buffer.result bytes c.new-buffer.ensures) c.run_lines.ensures.runs)

pub returns-clause-device : goal.returns-clause-device
returns-clause-device g c = λ is.
    let before = g.R.PortRead.failures c.args.reader.now + g.W.PortWrite.failures c.args.writer.now in
    let after = g.R.PortRead.failures c.run_lines.new.reader + g.W.PortWrite.failures c.run_lines.new.writer in
    subst (HasFailed before after) (prepend_none c.new-buffer.result (g.R.PortRead.remaining c.args.reader.now) c.new-buffer.ensures) (c.run_lines.ensures.device is)
