use Rattle.std.proofs.Common.{sym, ◌∙◌}
use Rattle.ipc_threads.proofs.OutputSteps.{caller_place}
use Rattle.ipc_threads.proofs.slots.Slots.place_from.Goals as goal

pub returns-then-holds_at-clause-place : goal.returns-then-holds_at-clause-place
returns-then-holds_at-clause-place c = caller_place c.args.self.now.past c.kept-kept.result.now c.kept-kept.ensures.legal c.kept-kept.ensures.stands c.args.number _ c.requires (sym c.holds_at.ensures ∙ c.if-holds_at.true)

pub returns-then-holds_at-2-clause-place : goal.returns-then-holds_at-2-clause-place
returns-then-holds_at-2-clause-place c = caller_place c.args.self.now.past c.kept-kept.result.now c.kept-kept.ensures.legal c.kept-kept.ensures.stands c.args.number c.place_beside-beside.result c.requires (sym c.holds_at-2.ensures ∙ c.if-holds_at-2.true)

pub returns-clause-place : goal.returns-clause-place
returns-clause-place c = caller_place c.args.self.now.past c.args.self.now.kept c.kept-kept.ensures.legal (rw c.kept-kept.ensures.kept at c.kept-kept.ensures.stands) c.args.number c.place_by_walk.result c.requires c.place_by_walk.ensures.holds
