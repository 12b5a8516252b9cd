use Rattle.std.proofs.Common.{◌≡◌, ◌↔◌, List, ◌++◌, map}
use Rattle.ipc_trace.specs.Parts.{PartParts}
use Rattle.std.specs.Vec.Iter.{into_iter_items, into_iter_len}
use Rattle.ipc_chain.specs.Chains.{ChainFrom, entries_of, parts_of}
use Rattle.ipc_chain.proofs.verdict.walk_parts.Given as goal

abbrev pub invariant-loop-part : goal.invariant-loop-part
invariant-loop-part l = record {
  behind : (more : List PartParts)
      → ChainFrom l.initial.chain.past l.initial.chain.taken l.initial.chain.told (map parts_of l.fn.parts.items ++ more)
      ↔ ChainFrom l.chain.past l.chain.taken l.chain.told (map parts_of (into_iter_items l.rest) ++ more);
  past : l.chain.past ++ entries_of (map parts_of (into_iter_items l.rest)) ≡ l.initial.chain.past ++ entries_of (map parts_of l.fn.parts.items);
}

abbrev pub decreases-loop-part : goal.decreases-loop-part
decreases-loop-part l = into_iter_len l.rest
