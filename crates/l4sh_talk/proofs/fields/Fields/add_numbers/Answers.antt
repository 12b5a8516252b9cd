use Rattle.std.proofs.Common.{refl}
use Rattle.ipc_lines.specs.Reading.{texts_of}
use Rattle.l4sh_talk.specs.Typed.{AddsWords}
use Rattle.l4sh_talk.proofs.TypedLemmas.{adds_at}
use Rattle.l4sh_talk.proofs.fields.Fields.add_numbers.Goals as goal

pub words-init : goal.words-init
unfolding AddsWords
words-init c = refl

pub words-preserved : goal.words-preserved
words-preserved c =
    rw c.in_ok-push.ensures.items
    (adds_at (texts_of c.args.values.now) c.words.place c.value_at.result.now c.in-Some.word _ _ c.value_at.ensures c.words.invariant c.in-Some.ensures)
