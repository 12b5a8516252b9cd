use Rattle.std.proofs.Common.{◌≡◌, ◌≤◌, ◌*◌, ◌-◌, ◌++◌, length}
use Rattle.ipc_frame.specs.Numbers.{words_in}
use Rattle.ipc_frame.proofs.cutting.read_words.Given as goal

abbrev pub invariant-loop-index : goal.invariant-loop-index
invariant-loop-index g l = record {
  all : l.words.items ++ words_in (l.count - l.index) l.rest ≡ words_in l.count l.bytes;
  there : 8 * (l.count - l.index) ≤ length l.rest;
}
