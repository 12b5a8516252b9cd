use Rattle.std.proofs.Common.{rules, arith}
use Rattle.ipc_seats.proofs.Counts.{no_call, no_entry}
use Rattle.ipc_seats.proofs.seated.Locked.new.Goals as goal

pub invariant_of-result : goal.invariant_of-result
invariant_of-result g c =
    let calls = no_call in
    let opens = no_entry in
    search (rules, arith)
