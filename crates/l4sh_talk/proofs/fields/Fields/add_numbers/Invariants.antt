-- The numbers so far were added.
use Rattle.std.proofs.Common.{take}
use Rattle.ipc_lines.specs.Reading.{texts_of}
use Rattle.l4sh_talk.specs.Typed.{AddsWords}
use Rattle.l4sh_talk.proofs.fields.Fields.add_numbers.Given as goal

abbrev pub invariant-words : goal.invariant-words
invariant-words l = AddsWords (take l.place (texts_of l.values)) l.fn.self.words.items l.self.words.items
