use Rattle.std.proofs.Common.{◌-◌, arith}
use Rattle.ipc_shell.proofs.wire.put_out.Goals as goal

pub returns-clause-within : goal.returns-clause-within
returns-clause-within c =
    omega (arith, c.output.ensures.count (c.args.connection - 1) (omega arith), c.output.auto.out)
