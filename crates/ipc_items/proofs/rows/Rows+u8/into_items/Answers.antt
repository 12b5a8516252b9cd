use Rattle.std.proofs.Common.{sym}
use Rattle.ipc_items.proofs.RowLemmas.{concat-rows}
use Rattle.ipc_items.proofs.rows.Rows+u8.into_items.Goals as goal

pub returns : goal.returns
returns c = rw (← c.self.view_is) (sym (concat-rows 0 c.self.inside.ends.items c.self.inside.items.items c.self.invariant))
