use Rattle.ipc_lock.proofs.logged.gifts.idle_at.Given as goal

abbrev pub ghost-told : goal.ghost-told
ghost-told g a = g.items
