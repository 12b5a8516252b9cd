use Rattle.std.proofs.Common.{◌++◌, map, subst}
use Rattle.std.specs.Vec.Iter.{into_iter_items}
use Rattle.ipc_chain.specs.Chains.{ChainFrom, parts_of}
use Rattle.ipc_chain.proofs.verdict.walk_parts.Goals as goal

pub returns-in-Some-2-clause-no : goal.returns-in-Some-2-clause-no
returns-in-Some-2-clause-no c =
    let no = rw c.in-Some-2.is at c.in_ok-verdict.ensures.no in
    let at = c.loop-part.chain in
    (no.0, λ rest chain. no.1 (map parts_of (into_iter_items c.next.new.self) ++ rest) (subst (λ l. ChainFrom at.past at.taken at.told (map parts_of l ++ rest)) c.in-Some.ensures.items ((c.loop-part.invariant.behind rest).0 chain)))
