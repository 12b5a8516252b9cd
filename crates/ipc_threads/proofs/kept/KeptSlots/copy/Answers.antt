use Rattle.std.proofs.Common.{ap}
use Rattle.ipc_threads.proofs.SlotTables.{both_calling}
use Rattle.ipc_threads.proofs.kept.KeptSlots.copy.Goals as goal

pub returns : goal.returns
returns c = rw (c.set_call-2.ensures, c.set_call.ensures, c.copied-sent.ensures, c.copied-received.ensures) (ap (λ table. record c.args.self.now { table = table }) (both_calling _ _ c.args.self.now.table c.args.sending c.args.receiving))

pub copied-sent-requires : goal.copied-sent-requires
copied-sent-requires c = c.requires.room c.args.sending

pub copied-received-requires : goal.copied-received-requires
copied-received-requires c = c.requires.room c.args.receiving
