use Rattle.l4x_embed.proofs.history.verdict_after.Given as goal

abbrev pub ghost-check_from : goal.ghost-check_from
ghost-check_from g a = g.before
