use Rattle.ipc_threads.proofs.slots.Slots.of.Given as goal

abbrev pub ghost-told : goal.ghost-told
ghost-told g a = g.past
