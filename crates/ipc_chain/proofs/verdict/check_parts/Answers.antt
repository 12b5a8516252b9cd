use Rattle.std.proofs.Common.{[], ◌∷◌, append-nil, map, subst}
use Rattle.ipc_chain.specs.Chains.{IsChain, parts_of}
use Rattle.ipc_chain.proofs.Each.{each_follows}
use Rattle.ipc_chain.proofs.verdict.check_parts.Goals as goal

pub returns-in-Whole-clause-yes : goal.returns-in-Whole-clause-yes
returns-in-Whole-clause-yes c = λ is.
    let stands = rw c.in-Whole.is at c.in_ok-chain.ensures.whole in
    let parts = parts_of c.args.first ∷ map parts_of c.args.parts.items in
    (stands.before, subst (IsChain stands.before) (append-nil parts) (stands.goes [] c.legal.ensures))

pub returns-in-Whole-clause-each : goal.returns-in-Whole-clause-each
returns-in-Whole-clause-each c = λ is.
    let stands = rw c.in-Whole.is at c.in_ok-chain.ensures.whole in
    let parts = parts_of c.args.first ∷ map parts_of c.args.parts.items in
    each_follows (parts_of c.args.first) (map parts_of c.args.parts.items) (stands.before, subst (IsChain stands.before) (append-nil parts) (stands.goes [] c.legal.ensures))
