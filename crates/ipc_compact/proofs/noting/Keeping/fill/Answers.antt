use Rattle.std.proofs.Common.{◌∙◌, ap}
use Rattle.ipc_compact.specs.Kept.{passes}
use Rattle.ipc_compact.proofs.OrderLemmas.{same_pass}
use Rattle.ipc_compact.proofs.noting.Keeping.fill.Goals as goal

pub returns : goal.returns
returns c e = same_pass c.find.new.self c.sort.new.self c.sort.ensures.calls c.sort.ensures.partners c.sort.ensures.threads e ∙ ap (λ k. passes k e) c.find.ensures
