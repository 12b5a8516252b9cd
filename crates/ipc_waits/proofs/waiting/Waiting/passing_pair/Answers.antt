use Rattle.std.proofs.Common.{◌≡◌, ◌∙◌, refl, sym, subst, true}
use Rattle.ipc_history.specs.declared.entry.Output.TheVariants.{Began}
use Rattle.ipc_threads.proofs.OutputCalls.{both_open}
use Rattle.ipc_waits.specs.Finding.{sends_to}
use Rattle.ipc_waits.proofs.Passing.{caller_by, passes_by, sends_there}
use Rattle.ipc_waits.proofs.waiting.Waiting.passing_pair.Goals as goal

pub place_of-to-requires : goal.place_of-to-requires
place_of-to-requires c = (both_open c.args.self.now.slots.past (Began c.args.sending c.args.receiving) c.requires.begins c.args.sending c.args.receiving (refl, refl)).1

pub place_of_sender-from-requires-clause-sends : goal.place_of_sender-from-requires-clause-sends
place_of_sender-from-requires-clause-sends c = subst (λ t. sends_to c.args.self.now.slots.past c.args.sending t ≡ true) (sym (caller_by c.args.self.now.slots.past c.args.receiving c.call_held-receiver.result.now c.call_held-receiver.ensures.call)) (sends_there c.args.self.now.slots.past c.args.sending c.args.receiving c.requires.begins)

pub returns-then-is_plain-clause-words : goal.returns-then-is_plain-clause-words
returns-then-is_plain-clause-words c = sym c.if-is_plain.true ∙ (c.is_plain.ensures ∙ passes_by c.args.self.now.slots.past c.args.sending c.call_held-sender.result.now c.call_held-sender.ensures.call)

pub returns-else-is_plain-clause-words : goal.returns-else-is_plain-clause-words
returns-else-is_plain-clause-words c = sym c.if-is_plain.false ∙ (c.is_plain.ensures ∙ passes_by c.args.self.now.slots.past c.args.sending c.call_held-sender.result.now c.call_held-sender.ensures.call)
