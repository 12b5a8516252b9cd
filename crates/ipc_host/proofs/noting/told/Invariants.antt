use Rattle.ipc_host.proofs.noting.told.Given as goal

abbrev pub ghost-told : goal.ghost-told
ghost-told g a = g.bytes
