use Rattle.std.proofs.Common.{sym, ◌∙◌}
use Rattle.ipc_compact.proofs.MakingLemmas.{open_is_there}
use Rattle.ipc_compact.proofs.making.open_standing.Goals as goal

pub unreachable-requires : goal.unreachable-requires
unreachable-requires c = open_is_there c.args.held.now c.args.over.now c.args.thread c.in_ok-number.number (sym c.open_call.ensures ∙ c.in_ok-number.was) (sym c.in-None.ensures)
