use Rattle.std.proofs.Common.{◌-◌, ◌≤◌, length}
use Rattle.l4sh_files.proofs.kept.ended_in.Given as goal

abbrev pub invariant-lines : goal.invariant-lines
invariant-lines l = l.ended.bytes ≤ length l.piece

abbrev pub decreases-lines : goal.decreases-lines
decreases-lines l = length l.piece - l.ended.bytes
