use Rattle.std.proofs.Common.{arith}
use Rattle.ipc_frame.proofs.FieldLemmas.{words_fit}
use Rattle.ipc_frame.proofs.fitting.are_words.Goals as goal

pub returns : goal.returns
returns c = words_fit c.args.words.now (λ i. omega (arith, c.type_inv.words i))
