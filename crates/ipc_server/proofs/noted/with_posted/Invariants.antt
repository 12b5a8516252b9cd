use Rattle.ipc_server.proofs.noted.with_posted.Given as goal

abbrev pub ghost-told : goal.ghost-told
ghost-told g a = g.all
