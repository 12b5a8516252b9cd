use Rattle.std.proofs.Common.{◌==◌, ◌∙◌, List, Option, ap, find, option_map}
use Rattle.l4sh_look.specs.Following.{LastCall, call_at, call_of_note, last_calls}
use Rattle.l4sh_look.specs.declared.notes.Note.{Note}
use Rattle.l4sh_look.proofs.NoteLemmas.{found}
use Rattle.l4sh_look.proofs.notes.Notes.get.Goals as goal

pub returns : goal.returns
returns c =
    ap (λ (kept : Option Note). option_map call_of_note kept) (c.find_call.ensures ∙ ap (λ (notes : List Note). find (λ (note : Note). note.number == c.args.number) notes) c.deref.ensures.value)
    ∙ (found c.self.inside.calls.items c.args.number
    ∙ ap (λ (calls : List LastCall). call_at calls c.args.number) (c.self.invariant ∙ ap last_calls c.self.view_is))
