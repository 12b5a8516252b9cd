use Rattle.std.proofs.Common.{subst}
use Rattle.ipc_trace.specs.PartReading.{Spells}
use Rattle.ipc_trace.proofs.Readings.{ReadsOnly, not_read, was_read}
use Rattle.ipc_trace.proofs.part.PartLines.read.Goals as goal

pub returns-in-Err : goal.returns-in-Err
returns-in-Err c =
    let only = subst (λ at. ReadsOnly at c.args.line.now c.read_line.result) c.stage.ensures c.read_line.ensures.only in
    not_read c.args.self.now c.args.self.now c.args.line.now c.read_line.result c.in-Err.fault only c.in-Err.is

pub returns-in-Ok : goal.returns-in-Ok
returns-in-Ok c =
    let only = subst (λ at. ReadsOnly at c.args.line.now c.read_line.result) c.stage.ensures c.read_line.ensures.only in
    let spells = subst (λ at. Spells at c.args.line.now c.in-Ok.read) c.stage.ensures c.in-Ok.ensures.found in
    was_read c.args.self.now c.enter.new.self c.args.line.now c.read_line.result c.in-Ok.read c.enter.result only c.in-Ok.is spells c.in-Ok.ensures.short c.enter.ensures.ok c.enter.ensures.bad
