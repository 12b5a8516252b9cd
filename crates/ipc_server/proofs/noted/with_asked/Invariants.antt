use Rattle.ipc_server.proofs.noted.with_asked.Given as goal

abbrev pub ghost-told : goal.ghost-told
ghost-told g a = g.all
