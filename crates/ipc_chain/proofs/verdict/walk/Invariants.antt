use Rattle.std.proofs.Common.{◌≡◌, ◌+◌, List, ◌++◌, length}
use Rattle.ipc_history.specs.declared.entry.Entry.{Entry}
use Rattle.std.specs.Vec.Iter.{into_iter_items, into_iter_len}
use Rattle.ipc_chain.specs.Judging.{Walks}
use Rattle.ipc_chain.proofs.verdict.walk.Given as goal

abbrev pub invariant-loop-entry : goal.invariant-loop-entry
invariant-loop-entry l = record {
  done : List Entry;
  whole : l.fn.entries.items ≡ done ++ into_iter_items l.rest;
  walks : Walks l.initial.chain l.chain done;
  place : l.index ≡ length done;
  left : l.index + length (into_iter_items l.rest) ≡ l.total;
}

abbrev pub decreases-loop-entry : goal.decreases-loop-entry
decreases-loop-entry l = into_iter_len l.rest
