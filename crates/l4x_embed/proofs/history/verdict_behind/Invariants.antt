use Rattle.l4x_embed.proofs.history.verdict_behind.Given as goal

abbrev pub ghost-verdict_after : goal.ghost-verdict_after
ghost-verdict_after a = record { past = a.kernel.now.history; taken = a.kernel.now.taken }
