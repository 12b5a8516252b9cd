use Rattle.ipc_base.proofs.past.Past.told.Given as goal

abbrev pub ghost-told : goal.ghost-told
ghost-told g a = g.items
