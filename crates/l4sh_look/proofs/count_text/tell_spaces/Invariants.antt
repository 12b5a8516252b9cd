-- So many spaces so far.
use Rattle.std.proofs.Common.{◌≡◌, ◌++◌, replicate}
use Rattle.std.specs.String.{string_bytes}
use Rattle.l4sh_look.proofs.count_text.tell_spaces.Given as goal

abbrev pub invariant-spaces : goal.invariant-spaces
invariant-spaces l =
    string_bytes l.text ≡ string_bytes l.fn.text ++ replicate l.counter 32
