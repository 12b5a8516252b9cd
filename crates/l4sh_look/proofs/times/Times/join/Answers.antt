use Rattle.std.proofs.Common.{refl, ap, ◌∙◌}
use Rattle.l4sh_look.specs.Runs.{times_of}
use Rattle.l4sh_look.proofs.RunLemmas.{held_joined}
use Rattle.l4sh_look.proofs.times.Times.join.Goals as goal

pub returns : goal.returns
returns c times held =
    held_joined times c.args.self.now _ c.sort_unstable_by_key.new.self.items held c.sort_unstable_by_key.ensures.permutation
    (c.in_ok-runs.ensures ∙ ap times_of c.deref.ensures.value) refl
