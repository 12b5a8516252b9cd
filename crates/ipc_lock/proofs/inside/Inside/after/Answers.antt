use Rattle.std.proofs.Common.{ap, ◌∙◌}
use Rattle.std.specs.Vec.{vec_items}
use Rattle.ipc_seats.proofs.Rows.{row_from}
use Rattle.ipc_lock.proofs.inside.Inside.after.Goals as goal

pub returns-clause-loads : goal.returns-clause-loads
returns-clause-loads g c =
    row_from c.args.own _ _ _ _ c.args.self.now.locked.kernel c.wakes_ticker-wakes_ticker.new.self.locked.kernel _ c.args.self.now.boxes.items c.wakes_ticker-wakes_ticker.new.self.boxes.items _ c.args.errands.now _
    (ap vec_items (c.wakes_ticker-wakes_ticker.ensures.owners ∙ c.tells_trace-tells_trace.ensures.owners)) (ap vec_items (c.wakes_ticker-wakes_ticker.ensures.finished ∙ c.tells_trace-tells_trace.ensures.finished))
    (ap (λ l. l.kernel) (c.wakes_ticker-wakes_ticker.ensures.locked ∙ c.tells_trace-tells_trace.ensures.locked)) (ap vec_items (c.wakes_ticker-wakes_ticker.ensures.boxes ∙ c.tells_trace-tells_trace.ensures.boxes))
    c.gather.ensures.loads
