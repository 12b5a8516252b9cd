use Rattle.std.proofs.Common.{◌≡◌, vec_capacity}
use Rattle.std.specs.Prelude.{replicate}
use Rattle.ipc_desks.specs.Desks.{blank_desk}
use Rattle.ipc_desks.proofs.kept.KeptDesks.new.Given as goal

abbrev pub invariant-loop : goal.invariant-loop
invariant-loop g l = record {
  items : l.desks.items ≡ replicate l.counter blank_desk;
  room : vec_capacity l.desks ≡ vec_capacity l.initial.desks;
}
