use Rattle.std.proofs.Common.{[], refl, arith}
use Rattle.ipc_connection.proofs.BareLemmas.{bare_at}
use Rattle.ipc_connection.proofs.whole.bare_frame.Goals as goal

pub returns-in-Whole-clause-whole : goal.returns-in-Whole-clause-whole
returns-in-Whole-clause-whole c =
    let size = c.in_ok-size.ensures in
    let told = c.in-Whole.ensures [] refl in
    let b = bare_at c.args.piece.now c.in_ok-size.size told.0 told.1.0 (λ i. omega (arith, c.type_inv.piece i)) size.bare.0 size.size size.within size.bare.1 told.1.1 in
    (b.is, b.whole, b.at)
