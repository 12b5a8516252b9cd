use Rattle.ipc_client.proofs.wire.told_at_start.Given as goal

abbrev pub ghost-told : goal.ghost-told
ghost-told g a = g.items
