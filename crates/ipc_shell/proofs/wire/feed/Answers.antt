use Rattle.ipc_exchange.specs.Feeding.{has_finished}
use Rattle.ipc_exchange.specs.Rooms.{stage_at}
use Rattle.ipc_shell.proofs.WireLemmas.{fed_in}
use Rattle.ipc_shell.proofs.wire.feed.Goals as goal

pub returns-clause-obeys : goal.returns-clause-obeys
returns-clause-obeys c =
    let given = c.in_ok-connection.ensures in
    fed_in c.args.exchange.now c.feed-after.new.self c.args.place c.in_ok-connection.connection c.args.bytes.now c.ends_here.result
    given.0 given.1 (c.feed-after.ensures.happened c.args.place given.0)
    (c.ends_here.ensures (has_finished (stage_at c.args.exchange.now.service.connections c.args.place)) (has_finished (stage_at c.feed-after.new.self.service.connections c.args.place))
    (c.progress-before.ensures.progress c.args.place given.0) (c.feed-after.ensures.progress c.args.place given.0))
