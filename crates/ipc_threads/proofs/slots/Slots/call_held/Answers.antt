use Rattle.std.proofs.Common.{sym, ap, ◌∙◌}
use Rattle.std.proofs.Common.{option_copied}
use Rattle.ipc_threads.proofs.Holders.{slot_full}
use Rattle.ipc_threads.proofs.Passed.{held_is, held_open, held_place, held_within}
use Rattle.ipc_threads.proofs.slots.Slots.call_held.Goals as goal

pub unreachable-requires : goal.unreachable-requires
unreachable-requires c = slot_full c.args.self.now.past c.args.self.now.kept c.args.place c.args.number c.requires (sym c.held.ensures ∙ ap option_copied c.in_default.is)

pub returns-clause-call : goal.returns-clause-call
returns-clause-call c = held_is c.args.self.now.past c.args.self.now.kept c.kept.ensures.legal (rw c.kept.ensures.kept at c.kept.ensures.stands) c.args.place c.args.number c.requires c.in-Some.call.now (sym c.held.ensures ∙ ap option_copied c.in-Some.is)

pub returns-clause-open : goal.returns-clause-open
returns-clause-open c = held_open c.args.self.now.past c.args.self.now.kept c.kept.ensures.legal (rw c.kept.ensures.kept at c.kept.ensures.stands) c.args.place c.args.number c.requires

pub returns-clause-place : goal.returns-clause-place
returns-clause-place c = held_place c.args.self.now.past c.args.self.now.kept c.kept.ensures.legal (rw c.kept.ensures.kept at c.kept.ensures.stands) c.args.place c.args.number c.requires

pub returns-clause-within : goal.returns-clause-within
returns-clause-within c = held_within c.args.self.now.past c.args.self.now.kept c.kept.ensures.legal (rw c.kept.ensures.kept at c.kept.ensures.stands) c.args.place c.args.number c.requires
