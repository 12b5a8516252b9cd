use Rattle.std.proofs.Common.{refl, sym, ap, subst, [], ◌∷◌, ◌++◌, ◌∙◌, None}
use Rattle.std.proofs.lemmas.Bool.{false≢true}
use Rattle.ipc_history.specs.Legal.{Follows}
use Rattle.ipc_threads.specs.Changes.{HasNamed}
use Rattle.ipc_threads.specs.declared.changes.Changes.{Changes}
use Rattle.ipc_threads.proofs.Changed.{unchanged}
use Rattle.ipc_waits.specs.Following.{FollowsChange}
use Rattle.ipc_waits.specs.Keys.{AreWaits}
use Rattle.ipc_waits.specs.Waiting.{IsTouched}
use Rattle.ipc_waits.specs.declared.waiting.Waiting.{Waiting}
use Rattle.ipc_waits.proofs.Following.{noted}
use Rattle.ipc_waits.proofs.waiting.Waiting.note_at.Goals as goal

abbrev no_change : Changes
no_change = record { first = None; second = None }

stays : (waiting : Waiting) → FollowsChange waiting waiting None
stays waiting = record { slots = refl; followed = tt; nothing = λ is. refl }

pub note_at-requires-clause-follows : goal.note_at-requires-clause-follows
note_at-requires-clause-follows c = subst (λ e. Follows c.touch.new.self.slots.past e) c.requires.entry (subst (λ s. Follows s.past c.args.entry.now) (sym c.touch.ensures.slots) c.requires.follows)

pub returns-clause-past : goal.returns-clause-past
returns-clause-past c = c.note_at.ensures.past ∙ ap (λ s. s.past ++ c.args.entry.now ∷ []) c.touch.ensures.slots

pub returns-clause-waiting : goal.returns-clause-waiting
returns-clause-waiting c =
    let slots = c.touch.new.self.slots in
    let after : Waiting = record { slots = c.note_at.new.self; waits = c.touch.new.self.waits; candidates = c.touch.new.self.candidates } in
    let follows = subst (λ s. Follows s.past c.args.entry.now) (sym c.touch.ensures.slots) c.requires.follows in
    let touched = subst (λ s. IsTouched s.past c.args.entry.now c.touch.new.self.candidates) (sym c.touch.ensures.slots) c.touch.ensures.touched in
    let stands = rw c.kept-2.ensures.kept at c.kept-2.ensures.stands in
    let named : HasNamed slots.past c.args.entry.now no_change = subst (λ e. HasNamed slots.past e no_change) (sym c.requires.entry) (λ n h. absurd (false≢true h)) in
    noted slots.past c.args.entry.now c.kept.ensures.legal follows slots.kept.table no_change after after after c.note_at.ensures.past (rw c.note_at.ensures.past at stands) (rw c.note_at.ensures.table (unchanged slots.kept.table)) named (stays after) (stays after)
    (subst (AreWaits slots.kept.table) (sym c.touch.ensures.waits) (subst (λ s. AreWaits s.kept.table c.args.self.now.waits) (sym c.touch.ensures.slots) c.requires.waiting.waits))
    touched
