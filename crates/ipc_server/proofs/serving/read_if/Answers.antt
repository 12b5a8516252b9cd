use Rattle.ipc_server.proofs.DoingLemmas.{reads_nothing}
use Rattle.ipc_server.proofs.serving.read_if.Goals as goal

pub returns-else-is_started : goal.returns-else-is_started
returns-else-is_started g c = reads_nothing _ _ _ c.args.posts c.turn_away.result.asked c.requires c.turn_away.ensures.came c.turn_away.ensures.asked
