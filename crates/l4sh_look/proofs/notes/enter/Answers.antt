use Rattle.std.proofs.Common.{◌≡◌, ◌==◌, ◌∙◌, List, None, ap, map, sym}
use Rattle.std.specs.List.{position}
use Rattle.l4sh_look.specs.Following.{call_of_note}
use Rattle.l4sh_look.specs.declared.notes.Note.{Note}
use Rattle.l4sh_look.proofs.NoteLemmas.{appended_to}
use Rattle.l4sh_look.proofs.notes.enter.Goals as goal

pub returns-in_ok-push-in-None-clause-ok : goal.returns-in_ok-push-in-None-clause-ok
returns-in_ok-push-in-None-clause-ok c =
    let none : position (λ (note : Note). note.caller == c.args.note.caller) c.args.calls.now.items ≡ None =
    sym (c.in-None.ensures ∙ ap (λ (notes : List Note). position (λ (note : Note). note.caller == c.args.note.caller) notes) c.deref.ensures.value) in
    ap (λ (notes : List Note). map call_of_note notes) c.in_ok-push-in-None.ensures.items
    ∙ appended_to c.args.calls.now.items c.args.note none
