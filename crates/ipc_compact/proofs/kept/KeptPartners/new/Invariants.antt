use Rattle.std.proofs.Common.{◌≡◌, length, vec_capacity}
use Rattle.ipc_compact.proofs.kept.KeptPartners.new.Given as goal

abbrev pub invariant-loop : goal.invariant-loop
invariant-loop g l = record {
  size : length l.calls.items ≡ l.counter;
  room : vec_capacity l.calls ≡ vec_capacity l.initial.calls;
}
