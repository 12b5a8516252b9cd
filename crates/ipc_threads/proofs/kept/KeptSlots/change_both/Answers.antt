use Rattle.std.proofs.Common.{ap}
use Rattle.ipc_threads.proofs.SlotTables.{both_calling}
use Rattle.ipc_threads.proofs.kept.KeptSlots.change_both.Goals as goal

pub returns : goal.returns
returns c = rw (c.set_call-2.ensures, c.set_call.ensures, c.after-sent.ensures, c.after-received.ensures, c.sender_at-sender.ensures) (ap (λ table. record c.args.self.now { table = table }) (both_calling _ _ c.args.self.now.table c.args.sending c.args.receiving))
