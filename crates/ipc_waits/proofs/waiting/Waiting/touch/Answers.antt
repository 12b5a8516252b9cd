use Rattle.std.proofs.Common.{◌∙◌, ap, ap₂, [], ◌||◌, map}
use Rattle.ipc_waits.specs.Finding.{is_among}
use Rattle.ipc_waits.proofs.AtPlaces.{quiet_covers_at}
use Rattle.ipc_waits.specs.Touching.{waits_touched}
use Rattle.ipc_waits.proofs.Touches.{is_touched, quiet_before}
use Rattle.ipc_waits.proofs.waiting.Waiting.touch.Goals.{in-Given, in_default}
use Rattle.ipc_waits.proofs.waiting.Waiting.touch.Goals as goal

pub returns-clause-touched : goal.returns-clause-touched
returns-clause-touched c = elim c.match-entry.branch [
  | in-Given w ↦ is_touched c.args.self.now.slots.past c.args.self.now.slots.kept c.args.self.now.waits c.kept.ensures.legal (rw c.kept.ensures.kept at c.kept.ensures.stands) c.requires.waiting.waits c.args.entry.now c.requires.follows [] c.add_all.new.self
      (quiet_covers_at c.args.self.now.slots.past [] (quiet_before c.args.self.now.slots.past c.args.entry.now _ c.requires.follows w.in-Given.is))
      (λ k. c.add_all.ensures k ∙ ap₂ (λ l ws. is_among l k || is_among (map (λ w. w.place) ws) k) (ap (λ s. s.candidates) w.self-is ∙ w.clear.ensures) (c.touched.ensures.value ∙ ap (λ s. waits_touched c.args.entry.now s.waits) w.self-is))
  | in_default w ↦ is_touched c.args.self.now.slots.past c.args.self.now.slots.kept c.args.self.now.waits c.kept.ensures.legal (rw c.kept.ensures.kept at c.kept.ensures.stands) c.requires.waiting.waits c.args.entry.now c.requires.follows c.args.self.now.candidates c.add_all.new.self
      c.requires.waiting.covers
      (λ k. c.add_all.ensures k ∙ ap₂ (λ l ws. is_among l k || is_among (map (λ w. w.place) ws) k) (ap (λ s. s.candidates) w.self-is) (c.touched.ensures.value ∙ ap (λ s. waits_touched c.args.entry.now s.waits) w.self-is))
]
