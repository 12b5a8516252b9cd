use Rattle.std.proofs.Common.{◌≡◌, length, take}
use Rattle.ipc_chain.proofs.same.are_same.Given as goal

abbrev pub invariant-loop-place : goal.invariant-loop-place
invariant-loop-place l = record {
  size : length l.ours ≡ length l.entries;
  so_far : take l.place l.ours ≡ take l.place l.entries;
}
