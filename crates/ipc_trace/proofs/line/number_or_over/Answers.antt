use Rattle.ipc_trace.proofs.Readings.{number_only}
use Rattle.ipc_trace.proofs.line.number_or_over.Goals as goal

pub returns-in-Some-clause-only : goal.returns-in-Some-clause-only
returns-in-Some-clause-only c read readable spells =
    number_only c.args.line.now c.in_ok-read.field-0 c.in-Some.read c.in-Some.is c.in_ok-read.ensures.found c.in_ok-read.ensures.only read readable spells
