use Rattle.std.proofs.Common.{◌≡◌, ◌++◌, take}
use Rattle.std.specs.Prelude.{replicate}
use Rattle.l4sh_look.specs.Runs.{times_of}
use Rattle.l4sh_look.proofs.times.joined.Given as goal

abbrev pub invariant-loop-run : goal.invariant-loop-run
invariant-loop-run l = times_of l.joined.items ++ replicate l.last.count l.last.time ≡ times_of (take l.run-index l.runs)
