use Rattle.std.proofs.Common.{◌<◌, length, arith}
use Rattle.ipc_threads.proofs.RestoringLemmas.{restored_more, restored_none}
use Rattle.ipc_threads.proofs.table.ThreadTable.restore.Goals as goal

pub loop-number-init : goal.loop-number-init
loop-number-init c = rw c.new-table.ensures (restored_none c.args.pairs.now)

pub loop-number-preserved : goal.loop-number-preserved
loop-number-preserved c =
    let within : c.loop-number.number-index < length c.args.pairs.now = omega arith in
    restored_more c.args.pairs.now c.loop-number.number-index c.loop-number.table c.restore_number.new.self within c.loop-number.invariant
    c.in_ok-restore_number.ensures.sound c.in_ok-restore_number.ensures.set c.in_ok-restore_number.ensures.quiet
