use Rattle.ipc_server.proofs.services.told_behind.Given as goal

abbrev pub ghost-told : goal.ghost-told
ghost-told g a = g.items
