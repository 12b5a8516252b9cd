use Rattle.std.proofs.Common.{◌≡◌, sym, ◌∙◌, refl, true, arith}
use Rattle.ipc_threads.proofs.SlotTables.{closed_is, found_within, live_some}
use Rattle.ipc_threads.proofs.slot_table.SlotTable.close.Goals as goal

pub listed : goal.listed
listed c =
    let some = live_some c.self.inside.threads c.self.inside.calls c.args.self.now (c.self.invariant.0 ∙ sym c.self.invariant.1) c.self.view_is c.args.thread c.requires in
    omega (arith, c.number.ensures, c.self.invariant.0, c.self.invariant.1, found_within c.self.inside.threads c.args.thread some.0 some.1)

pub bounds-self-inside-number : goal.bounds-self-inside-number
bounds-self-inside-number c =
    let some = live_some c.self.inside.threads c.self.inside.calls c.args.self.now (c.self.invariant.0 ∙ sym c.self.invariant.1) c.self.view_is c.args.thread c.requires in
    omega (arith, c.number.ensures, c.self.invariant.0, found_within c.self.inside.threads c.args.thread some.0 some.1)

pub returns : goal.returns
returns c =
    let some = live_some c.self.inside.threads c.self.inside.calls c.args.self.now (c.self.invariant.0 ∙ sym c.self.invariant.1) c.self.view_is c.args.thread c.requires in
    let live : c.close.result ≡ true = c.close.ensures.live.1 (rw some.1 refl) in
    rw (c.number.ensures, rw live at c.close.ensures.closed) (closed_is c.self.inside.threads c.self.inside.calls c.args.self.now (c.self.invariant.0 ∙ sym c.self.invariant.1) c.self.view_is c.args.thread some.0 some.1)
