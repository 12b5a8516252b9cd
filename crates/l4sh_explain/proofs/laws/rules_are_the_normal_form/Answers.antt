use Rattle.l4sh_explain.proofs.NormalForms.{rules_are_normal}
use Rattle.l4sh_explain.proofs.laws.rules_are_the_normal_form.Goals as goal

pub returns : goal.returns
returns c = rules_are_normal
