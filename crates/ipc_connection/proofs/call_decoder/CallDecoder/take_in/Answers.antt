use Rattle.std.proofs.Common.{sym, ◌∙◌}
use Rattle.ipc_connection.proofs.BareLemmas.{holds_none, takes_bare}
use Rattle.ipc_connection.proofs.call_decoder.CallDecoder.take_in.Goals as goal

pub returns-in-Some-clause-taken : goal.returns-in-Some-clause-taken
returns-in-Some-clause-taken g c =
    let found = c.in-Some.ensures.whole in
    let none = holds_none c.self.inside.held c.self.inside.spent c.args.self.now c.self.view_is c.if-not-self.true (sym c.is_empty.ensures ∙ c.if-is_empty.true) in
    takes_bare c.args.piece.now c.in-Some.size found.0 c.args.self.now _ _ found.1 none (c.hear_bare.ensures found.0 found.2)
