use Rattle.std.proofs.Common.{◌≡◌, ◌+◌, ◌<◌, take, length}
use Rattle.std.specs.List.{flat_map, slice_range}
use Rattle.ipc_items.specs.Rows.{grown}
use Rattle.ipc_items.proofs.cutting.Cuts.append.Given as goal

abbrev pub invariant-loop-pointer : goal.invariant-loop-pointer
invariant-loop-pointer l = record {
  some : 0 < length l.self.rows;
  so_far : l.self.rows ≡ grown l.initial.self.rows (flat_map (λ p. slice_range l.initial.self.payload p (p + l.count)) (take l.pointer-index l.pointer-items));
  payload : l.self.payload ≡ l.initial.self.payload;
}
