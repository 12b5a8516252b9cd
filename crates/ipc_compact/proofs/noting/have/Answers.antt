use Rattle.std.proofs.Common.{◌∙◌, sym}
use Rattle.ipc_compact.proofs.OrderLemmas.{below_all, looked_up}
use Rattle.ipc_compact.proofs.noting.have.Goals as goal

pub returns : goal.returns
returns c = c.is_ok.ensures.value ∙ looked_up c.args.number c.args.numbers.now c.requires.order c.binary_search.result c.binary_search.ensures.position

pub returns-then-number-numbers : goal.returns-then-number-numbers
returns-then-number-numbers c = sym (below_all c.args.number _ c.args.numbers.now c.requires.order c.if-number-numbers.true)
