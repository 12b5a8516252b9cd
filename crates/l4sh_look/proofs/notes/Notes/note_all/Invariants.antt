-- The entries so far were noted.
use Rattle.std.proofs.Common.{◌≡◌, ◌++◌, take}
use Rattle.l4sh_look.proofs.notes.Notes.note_all.Given as goal

abbrev pub invariant-entries : goal.invariant-entries
invariant-entries l = l.self ≡ l.fn.self ++ take l.entry-index l.entries
