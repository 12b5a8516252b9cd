use Rattle.std.proofs.Common.{◌≡◌, ◌∙◌, ◌==◌, sym, ap, subst, true}
use Rattle.std.proofs.lemmas.Bool.{false≢true}
use Rattle.std.specs.List.{list_any}
use Rattle.ipc_threads.specs.Slots.{slot_at}
use Rattle.ipc_threads.specs.Steps.{holds}
use Rattle.ipc_waits.specs.Queues.{is_in, under}
use Rattle.ipc_waits.proofs.Passing.{sender_held, sender_there}
use Rattle.ipc_waits.proofs.waiting.Waiting.place_of_sender.Goals as goal

pub unreachable-requires : goal.unreachable-requires
unreachable-requires c =
    let is : c.under.result.now ≡ under c.args.receiver c.args.self.now.waits.senders = c.under.ensures.value ∙ (ap (under c.to_word.result) c.senders.ensures ∙ ap (λ t. under t c.args.self.now.waits.senders) c.to_word.ensures) in
    let there = sender_there c.args.self.now.slots.past c.args.self.now.slots.kept c.kept.ensures.legal (rw c.kept.ensures.kept at c.kept.ensures.stands) c.args.self.now.waits.senders c.requires.waiting.waits.senders c.args.sending c.args.receiver c.requires.sends in
    let none = (rw c.in_default.is at c.wait_of.ensures.none) in
    false≢true (sym none ∙ (ap (list_any (λ w. w.number == c.args.sending)) is ∙ there))

pub returns : goal.returns
returns c =
    let is : c.under.result.now ≡ under c.args.receiver c.args.self.now.waits.senders = c.under.ensures.value ∙ (ap (under c.to_word.result) c.senders.ensures ∙ ap (λ t. under t c.args.self.now.waits.senders) c.to_word.ensures) in
    let found = (rw c.in-Some.is at c.wait_of.ensures.found) in
    let held = sender_held c.args.self.now.slots.past c.args.self.now.slots.kept c.kept.ensures.legal (rw c.kept.ensures.kept at c.kept.ensures.stands) c.args.self.now.waits.senders c.requires.waiting.waits.senders c.args.receiver c.in-Some.wait (subst (λ l. is_in l c.in-Some.wait ≡ true) is found.0) in
    subst (λ k. holds (slot_at c.args.self.now.slots.kept.table c.in-Some.wait.place) k ≡ true) found.1 held
