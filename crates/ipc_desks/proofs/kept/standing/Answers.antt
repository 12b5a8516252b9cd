use Rattle.std.proofs.Common.{sym, ◌∙◌}
use Rattle.std.proofs.lemmas.Option.{none-some, same_Some}
use Rattle.ipc_threads.specs.Standings.{standing_of}
use Rattle.ipc_desks.proofs.Standings.{standing_there}
use Rattle.ipc_desks.proofs.kept.standing.Goals as goal

pub unreachable-requires : goal.unreachable-requires
unreachable-requires c = none-some (standing_of c.args.slots.now.past c.args.number) (sym c.in_default.is ∙ (c.call_at.ensures ∙ standing_there c.args.slots.now.past c.kept.ensures.legal c.args.slots.now.kept (rw c.kept.ensures.kept at c.kept.ensures.stands) c.args.number c.requires.open c.args.place c.requires.place))

pub returns : goal.returns
returns c = same_Some c.in-Some.call (standing_of c.args.slots.now.past c.args.number) (sym c.in-Some.is ∙ (c.call_at.ensures ∙ standing_there c.args.slots.now.past c.kept.ensures.legal c.args.slots.now.kept (rw c.kept.ensures.kept at c.kept.ensures.stands) c.args.number c.requires.open c.args.place c.requires.place))
