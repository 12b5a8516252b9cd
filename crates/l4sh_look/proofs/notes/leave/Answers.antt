use Rattle.std.proofs.Common.{◌≡◌, ◌==◌, ◌∙◌, List, None, ap, sym}
use Rattle.std.specs.List.{position}
use Rattle.l4sh_look.specs.declared.notes.Note.{Note}
use Rattle.l4sh_look.proofs.NoteLemmas.{absent_from}
use Rattle.l4sh_look.proofs.notes.leave.Goals as goal

pub returns-in-None : goal.returns-in-None
returns-in-None c =
    let none : position (λ (note : Note). note.caller == c.args.thread) c.args.calls.now.items ≡ None =
    sym (c.in-None.ensures ∙ ap (λ (notes : List Note). position (λ (note : Note). note.caller == c.args.thread) notes) c.deref.ensures.value) in
    absent_from c.args.calls.now.items c.args.thread none
