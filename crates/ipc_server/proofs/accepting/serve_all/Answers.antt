use Rattle.ipc_server.proofs.accepting.serve_all.Goals as goal

pub returns : goal.returns
returns g c = c.scoped.ensures.1
