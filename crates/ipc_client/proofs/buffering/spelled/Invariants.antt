-- The words so far, and those of the substrings that are left.
use Rattle.std.proofs.Common.{◌≡◌, ◌++◌, drop}
use Rattle.ipc_client.specs.Buffering.{buffer_words}
use Rattle.ipc_client.proofs.buffering.spelled.Given as goal

abbrev pub invariant-loop-part : goal.invariant-loop-part
invariant-loop-part l = l.words.items ++ buffer_words (drop l.part-index l.parts) ≡ buffer_words l.parts
