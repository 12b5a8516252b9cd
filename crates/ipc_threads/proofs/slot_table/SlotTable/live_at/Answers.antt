use Rattle.std.proofs.Common.{sym, ◌∙◌}
use Rattle.ipc_threads.proofs.SlotTables.{live_by_id, live_by_none}
use Rattle.ipc_threads.proofs.slot_table.SlotTable.live_at.Goals as goal

pub returns-in_err-thread : goal.returns-in_err-thread
returns-in_err-thread c = c.from_residual.ensures ∙ sym (live_by_none c.self.inside.threads c.self.inside.calls c.args.self.now (c.self.invariant.0 ∙ sym c.self.invariant.1) c.self.view_is c.args.place (sym c.thread_of.ensures.value ∙ c.in_err-thread.was))

pub returns : goal.returns
returns c = c.live.ensures ∙ live_by_id c.self.inside.threads c.self.inside.calls c.args.self.now (c.self.invariant.0 ∙ sym c.self.invariant.1) c.self.view_is c.args.place c.in_ok-thread.thread (sym c.thread_of.ensures.value ∙ c.in_ok-thread.was) c.in_ok-thread.ensures.number
