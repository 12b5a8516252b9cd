use Rattle.std.proofs.Common.{◌≡◌, ◌<◌, length, true}
use Rattle.ipc_items.specs.ItemWords.{items_of, strings_by}
use Rattle.ipc_items.specs.StringItem.{bytes_of}
use Rattle.ipc_items.proofs.ReadLemmas.{onto}
use Rattle.ipc_items.proofs.cutting.Cuts.cut.Given as goal

abbrev pub invariant-loop-item : goal.invariant-loop-item
invariant-loop-item g l = record {
  some : l.goes_on ≡ true → 0 < length l.self.rows;
  so_far : onto l.goes_on l.self.rows (strings_by (bytes_of l.initial.self.payload) (items_of l.rest)) ≡ strings_by (bytes_of l.initial.self.payload) (items_of l.words);
  payload : l.self.payload ≡ l.initial.self.payload;
}

abbrev pub decreases-loop-item : goal.decreases-loop-item
decreases-loop-item g l = length l.rest
