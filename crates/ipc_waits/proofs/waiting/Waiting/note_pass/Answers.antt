use Rattle.std.proofs.Common.{ap, subst, ◌∙◌}
use Rattle.ipc_threads.specs.Slots.{Stands}
use Rattle.ipc_waits.proofs.Passing.{passed, second_follows}
use Rattle.ipc_waits.proofs.waiting.Waiting.note_pass.Goals as goal

pub follow-requires-2 : goal.follow-requires-2
follow-requires-2 c = second_follows c.args.self.now.slots.kept.table _ c.follow.new.self c.note_pass-changes.result.first c.note_pass-changes.result.second c.requires.waiting.waits c.note_pass-changes.ensures.changed.second c.note_pass-changes.ensures.changed.apart c.follow.ensures

pub returns-clause-past : goal.returns-clause-past
returns-clause-past c = ap (λ s. s.past) (c.follow-2.ensures.slots ∙ c.follow.ensures.slots) ∙ c.note_pass-changes.ensures.past

pub returns-clause-waiting : goal.returns-clause-waiting
returns-clause-waiting c =
    let told = rw (c.requires.began, c.requires.ended) at c.note_pass-changes.ensures.past in
    let named = rw c.requires.began at c.note_pass-changes.ensures.named in
    let stands = subst (λ s. Stands s.past s.kept) (c.follow-2.ensures.slots ∙ c.follow.ensures.slots) (rw c.kept-2.ensures.kept at c.kept-2.ensures.stands) in
    passed c.args.self.now.slots.past c.args.pair.sending c.args.pair.receiving c.kept.ensures.legal c.requires.begins c.requires.ends c.args.self.now.slots.kept.table c.note_pass-changes.result _ c.follow.new.self c.follow-2.new.self told (rw told at stands) c.note_pass-changes.ensures.changed named c.follow.ensures c.follow-2.ensures c.requires.waiting.waits c.requires.waiting.covers
