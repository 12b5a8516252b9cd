-- The line so far was read; what is left of it is behind it.
use Rattle.std.proofs.Common.{◌≡◌, drop}
use Rattle.l4sh_talk.specs.Quoting.{no_words, words_behind}
use Rattle.l4sh_talk.proofs.quoting.words_before_end.Given as goal

abbrev pub invariant-bytes : goal.invariant-bytes
invariant-bytes l = words_behind l.so_far (drop l.place l.line) ≡ words_behind no_words l.line
