use Rattle.ipc_words.specs.Limits.{table_slots}
use Rattle.ipc_threads.proofs.SlotTables.{from_blank}
use Rattle.ipc_threads.proofs.slot_table.SlotTable.new.Goals as goal

pub returns : goal.returns
returns c = rw c.new.ensures (from_blank table_slots 0)
