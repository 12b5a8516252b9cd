use Rattle.std.proofs.Common.{◌∙◌, ap}
use Rattle.ipc_base.specs.LogViews.{table_of}
use Rattle.ipc_seats.proofs.blank_log.BlankLog.open.Goals as goal

pub open-log-requires : goal.open-log-requires
open-log-requires g c = ap (table_of 0) (c.self.view_is ∙ c.requires)

pub open-gave-requires : goal.open-gave-requires
open-gave-requires g c = ap (table_of 1) (c.self.view_is ∙ c.requires)
