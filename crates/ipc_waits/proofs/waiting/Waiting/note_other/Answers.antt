use Rattle.std.proofs.Common.{sym, ap, subst, [], ◌∷◌, ◌++◌, ◌∙◌}
use Rattle.ipc_history.specs.Legal.{Follows}
use Rattle.ipc_threads.specs.Slots.{Stands}
use Rattle.ipc_waits.specs.Keys.{AreWaits}
use Rattle.ipc_waits.specs.Waiting.{IsTouched}
use Rattle.ipc_waits.proofs.Following.{noted}
use Rattle.ipc_waits.proofs.waiting.Waiting.note_other.Goals as goal

pub note-changes-requires : goal.note-changes-requires
note-changes-requires c = subst (λ s. Follows s.past c.args.entry.now) (sym c.touch.ensures.slots) c.requires.follows

pub returns-clause-past : goal.returns-clause-past
returns-clause-past c = ap (λ s. s.past) (c.follow-2.ensures.slots ∙ c.follow.ensures.slots) ∙ (c.note-changes.ensures.past ∙ ap (λ s. s.past ++ c.args.entry.now ∷ []) c.touch.ensures.slots)

pub returns-clause-waiting : goal.returns-clause-waiting
returns-clause-waiting c =
    let slots = c.touch.new.self.slots in
    let follows = subst (λ s. Follows s.past c.args.entry.now) (sym c.touch.ensures.slots) c.requires.follows in
    let touched = subst (λ s. IsTouched s.past c.args.entry.now c.touch.new.self.candidates) (sym c.touch.ensures.slots) c.touch.ensures.touched in
    let stands = subst (λ s. Stands s.past s.kept) (c.follow-2.ensures.slots ∙ c.follow.ensures.slots) (rw c.kept-2.ensures.kept at c.kept-2.ensures.stands) in
    noted slots.past c.args.entry.now c.kept.ensures.legal follows slots.kept.table c.note-changes.result _ c.follow.new.self c.follow-2.new.self c.note-changes.ensures.past (rw c.note-changes.ensures.past at stands) c.note-changes.ensures.changed c.note-changes.ensures.named c.follow.ensures c.follow-2.ensures
    (subst (AreWaits slots.kept.table) (sym c.touch.ensures.waits) (subst (λ s. AreWaits s.kept.table c.args.self.now.waits) (sym c.touch.ensures.slots) c.requires.waiting.waits))
    touched
