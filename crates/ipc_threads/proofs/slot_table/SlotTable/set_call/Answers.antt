use Rattle.std.proofs.Common.{ap, ◌∙◌}
use Rattle.std.specs.Prelude.{slice_set}
use Rattle.ipc_threads.specs.Steps.{calling}
use Rattle.ipc_threads.specs.Table.{slot_at}
use Rattle.ipc_threads.proofs.SlotTables.{call_set}
use Rattle.ipc_threads.proofs.slot_table.SlotTable.set_call.Goals as goal

pub returns : goal.returns
returns c = call_set 0 c.args.place c.self.inside.threads c.self.inside.calls c.args.call ∙ ap (λ table. slice_set table c.args.place (calling c.args.call (slot_at table c.args.place))) c.self.view_is
