use Rattle.std.proofs.Common.{◌≡◌, drop}
use Rattle.std.specs.Prelude.{slice_index}
use Rattle.l4sh_look.specs.Runs.{times_of}
use Rattle.l4sh_look.proofs.times.time_at.Given as goal

abbrev pub invariant-loop-run : goal.invariant-loop-run
invariant-loop-run l = slice_index (times_of l.runs) l.place ≡ slice_index (times_of (drop l.run-index l.runs)) l.left
