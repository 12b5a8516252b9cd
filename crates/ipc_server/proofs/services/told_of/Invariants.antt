use Rattle.ipc_server.proofs.services.told_of.Given as goal

abbrev pub ghost-told : goal.ghost-told
ghost-told g a = g.items
