use Rattle.ipc_server.proofs.serving.serve_both_ways.Goals as goal

pub returns : goal.returns
returns g c = c.scoped.ensures.1
