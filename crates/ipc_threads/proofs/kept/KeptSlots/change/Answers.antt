use Rattle.std.proofs.Common.{ap}
use Rattle.std.specs.Prelude.{slice_set}
use Rattle.ipc_threads.proofs.SlotTables.{calling_after}
use Rattle.ipc_threads.proofs.kept.KeptSlots.change.Goals as goal

pub returns : goal.returns
returns c = rw (c.set_call.ensures, c.after-call.ensures) (ap (λ slot. record c.args.self.now { table = slice_set c.args.self.now.table c.args.place slot }) (calling_after _ _))
