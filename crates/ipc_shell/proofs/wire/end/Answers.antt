use Rattle.ipc_exchange.specs.Feeding.{has_finished}
use Rattle.ipc_exchange.specs.Rooms.{stage_at}
use Rattle.ipc_shell.proofs.WireLemmas.{finished_in}
use Rattle.ipc_shell.proofs.wire.end.Goals as goal

pub returns-clause-obeys : goal.returns-clause-obeys
returns-clause-obeys c =
    let given = c.in_ok-connection.ensures in
    finished_in c.args.exchange.now c.end.new.self c.args.place c.in_ok-connection.connection c.ends_here.result
    given.0 given.1 (c.end.ensures.happened c.args.place given.0)
    (c.ends_here.ensures (has_finished (stage_at c.args.exchange.now.service.connections c.args.place)) (has_finished (stage_at c.end.new.self.service.connections c.args.place))
    (c.progress-before.ensures.progress c.args.place given.0) (c.progress-after.ensures.progress c.args.place given.0))
