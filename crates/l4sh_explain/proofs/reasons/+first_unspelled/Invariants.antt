use Rattle.std.proofs.Common.{length}
use Rattle.l4sh_explain.proofs.reasons.+first_unspelled.Given as goal

abbrev pub decreases-first_unspelled : goal.decreases-first_unspelled
decreases-first_unspelled l = length l.fields.now
