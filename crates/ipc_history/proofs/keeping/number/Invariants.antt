use Rattle.std.proofs.Common.{◌≡◌, ◌+◌, ◌-◌, ◌++◌, vec_len, vec_capacity}
use Rattle.std.specs.List.{range_with_len}
use Rattle.ipc_history.proofs.keeping.number.Given as goal

abbrev pub invariant-loop-place : goal.invariant-loop-place
invariant-loop-place l = record {
  items : l.places.items ≡ l.fn.places.items ++ range_with_len l.from (l.place - l.from);
  len : vec_len l.places ≡ vec_len l.fn.places + (l.place - l.from);
  capacity : vec_capacity l.places ≡ vec_capacity l.fn.places;
}
