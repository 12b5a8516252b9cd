use Rattle.ipc_base.proofs.Fronts.{part_is_front}
use Rattle.ipc_trace.proofs.Puts.{on_err}
use Rattle.ipc_shell.proofs.output.put.Goals as goal

pub returns-in_err-write_all-clause-part : goal.returns-in_err-write_all-clause-part
returns-in_err-write_all-clause-part g c =
    on_err c.from_residual.result (part_is_front (g.P.PortWrite.written c.args.port.now) (g.P.PortWrite.written c.write_all.new.port) c.args.text.now c.in_err-write_all.ensures.part)
