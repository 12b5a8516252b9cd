use Rattle.ipc_server.proofs.NotedLemmas.{asks_for, stays_home}
use Rattle.ipc_server.proofs.serving.read_with.Goals as goal

pub returns-clause-asks : goal.returns-clause-asks
returns-clause-asks g c =
    asks_for _ _ _ _ _ c.args.kernel_port.now.end c.read_loop.new.kernel_port.end _ _ c.requires c.read_loop.ensures.calls

pub returns-clause-home : goal.returns-clause-home
returns-clause-home g c =
    stays_home _ _ _ _ _ c.args.kernel_port.now.end c.read_loop.new.kernel_port.end _ _ c.requires c.read_loop.ensures.calls
