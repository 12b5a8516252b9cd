use Rattle.std.proofs.Common.{sym, ◌∙◌}
use Rattle.ipc_threads.proofs.MovedSteps.{passing_at, passing_is}
use Rattle.ipc_threads.proofs.slots.Slots.receiver_of.Goals as goal

pub unreachable-requires-in_default-phase : goal.unreachable-requires-in_default-phase
unreachable-requires-in_default-phase c = let p = passing_at c.args.self.now.past c.args.number c.args.count c.kept.ensures.legal c.requires.follows c.kept.result.now c.kept.ensures.stands c.args.place (rw (← c.kept.ensures.kept) at c.requires.holds) in c.in_default-phase.not-Passing p.0 (p.2 c.in-Some.call (sym c.call_at.ensures ∙ c.in-Some.is))

pub returns : goal.returns
returns c = passing_is c.args.self.now.past c.args.number c.args.count c.kept.ensures.legal c.requires.follows c.kept.result.now c.kept.ensures.stands c.args.place (rw (← c.kept.ensures.kept) at c.requires.holds) c.in-Some.call (sym c.call_at.ensures ∙ c.in-Some.is) c.in-Passing.receiver c.in-Passing.is
