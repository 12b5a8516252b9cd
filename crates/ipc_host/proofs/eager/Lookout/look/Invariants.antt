-- Nothing came so far.
use Rattle.std.specs.Prelude.{◌≡◌}
use Rattle.ipc_host.proofs.eager.Lookout.look.Given as goal

abbrev pub invariant-looks : goal.invariant-looks
invariant-looks g l = l.inlet.came ≡ l.fn.inlet.came
