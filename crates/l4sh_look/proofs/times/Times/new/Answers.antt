use Rattle.std.proofs.Common.{sym, subst, arith, [], ap, ◌∙◌, refl}
use Rattle.std.specs.List.Sorted.{IsPermutation}
use Rattle.std.proofs.lemmas.List.Sorted.{IsPermutation-refl}
use Rattle.l4sh_look.specs.Runs.{times_of}
use Rattle.l4sh_look.proofs.RunLemmas.{times_none}
use Rattle.l4sh_look.proofs.times.Times.new.Goals as goal

pub returns : goal.returns
returns c = record {
  same = subst (λ l. IsPermutation [] l) (sym (ap times_of c.new.ensures.items ∙ times_none)) (IsPermutation-refl []);
  counted = refl;
  few = omega arith;
}
