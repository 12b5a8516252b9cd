use Rattle.std.proofs.Common.{sym, ◌∙◌}
use Rattle.ipc_threads.proofs.SlotTables.{live_found, live_missed}
use Rattle.ipc_threads.proofs.slot_table.SlotTable.live.Goals as goal

pub returns-in_err-space : goal.returns-in_err-space
returns-in_err-space c = c.from_residual.ensures ∙ sym (live_missed c.self.inside.threads c.self.inside.calls c.args.self.now (c.self.invariant.0 ∙ sym c.self.invariant.1) c.self.view_is c.args.thread (sym c.space_of.ensures.space ∙ c.in_err-space.was))

pub returns : goal.returns
returns c = rw (c.from.ensures, c.number.ensures) (live_found c.self.inside.threads c.self.inside.calls c.args.self.now (c.self.invariant.0 ∙ sym c.self.invariant.1) c.self.view_is c.args.thread c.in_ok-space.space (sym c.space_of.ensures.space ∙ c.in_ok-space.was) _)
