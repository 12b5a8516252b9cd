use Rattle.std.proofs.Common.{◌≡◌, sym, ap, ◌∙◌, subst}
use Rattle.std.proofs.lemmas.Option.{none-some, same_Some}
use Rattle.ipc_history.specs.Calls.{buffers_of}
use Rattle.ipc_history.specs.Outcomes.{timed}
use Rattle.ipc_desks.specs.Desks.{desk_at}
use Rattle.ipc_desks.specs.Messages.{message_of}
use Rattle.ipc_desks.specs.Steps.{Changed, buffers_in, emptied}
use Rattle.ipc_desks.proofs.EndedNotes.{fits_buffers, has_words, put_together}
use Rattle.ipc_desks.proofs.HandOver.{buffers_there, message_there}
use Rattle.ipc_desks.proofs.kept.KeptDesks.hand_over.Goals as goal

pub unreachable-requires : goal.unreachable-requires
unreachable-requires c = none-some (message_of c.args.slots.now.past c.args.call.now.number) (sym c.in_default.is ∙ (c.take_message.ensures.result ∙ (ap (λ p. (desk_at c.args.self.now p).message) c.requires.sender ∙ message_there c.args.slots.now.past c.args.call.now.number c.args.receiving c.kept.ensures.legal c.requires.follows c.args.taken.now c.args.self.now c.requires.keeps)))

pub delivered-requires-clause-words : goal.delivered-requires-clause-words
delivered-requires-clause-words c =
    let message : c.in-Some.message ≡ message_of c.args.slots.now.past c.args.call.now.number = same_Some c.in-Some.message (message_of c.args.slots.now.past c.args.call.now.number) (sym c.in-Some.is ∙ (c.take_message.ensures.result ∙ (ap (λ p. (desk_at c.args.self.now p).message) c.requires.sender ∙ message_there c.args.slots.now.past c.args.call.now.number c.args.receiving c.kept.ensures.legal c.requires.follows c.args.taken.now c.args.self.now c.requires.keeps))) in
    let buffers : c.take_buffers-buffers.result ≡ buffers_of c.args.slots.now.past c.args.receiving = c.take_buffers-buffers.ensures.result ∙ (ap (λ p. buffers_in (desk_at c.take_message.new.self p).told) c.requires.receiver ∙ buffers_there c.args.slots.now.past c.args.call.now.number c.args.receiving c.kept.ensures.legal c.requires.follows c.args.taken.now c.args.self.now c.requires.keeps c.take_message.new.self (subst (λ p. Changed p emptied c.args.self.now c.take_message.new.self) c.requires.sender c.take_message.ensures.desks)) in
    has_words c.args.slots.now.past c.args.call.now.number c.args.receiving c.kept.ensures.legal c.requires.follows c.in-Some.message c.args.call.now c.take_buffers-buffers.result message c.requires.call buffers

pub delivered-requires-clause-fits : goal.delivered-requires-clause-fits
delivered-requires-clause-fits c =
    let message : c.in-Some.message ≡ message_of c.args.slots.now.past c.args.call.now.number = same_Some c.in-Some.message (message_of c.args.slots.now.past c.args.call.now.number) (sym c.in-Some.is ∙ (c.take_message.ensures.result ∙ (ap (λ p. (desk_at c.args.self.now p).message) c.requires.sender ∙ message_there c.args.slots.now.past c.args.call.now.number c.args.receiving c.kept.ensures.legal c.requires.follows c.args.taken.now c.args.self.now c.requires.keeps))) in
    let buffers : c.take_buffers-buffers.result ≡ buffers_of c.args.slots.now.past c.args.receiving = c.take_buffers-buffers.ensures.result ∙ (ap (λ p. buffers_in (desk_at c.take_message.new.self p).told) c.requires.receiver ∙ buffers_there c.args.slots.now.past c.args.call.now.number c.args.receiving c.kept.ensures.legal c.requires.follows c.args.taken.now c.args.self.now c.requires.keeps c.take_message.new.self (subst (λ p. Changed p emptied c.args.self.now c.take_message.new.self) c.requires.sender c.take_message.ensures.desks)) in
    fits_buffers c.args.slots.now.past c.args.call.now.number c.args.receiving c.kept.ensures.legal c.requires.follows c.in-Some.message c.take_buffers-buffers.result message buffers

pub returns-clause-outcome : goal.returns-clause-outcome
returns-clause-outcome c =
    let message : c.in-Some.message ≡ message_of c.args.slots.now.past c.args.call.now.number = same_Some c.in-Some.message (message_of c.args.slots.now.past c.args.call.now.number) (sym c.in-Some.is ∙ (c.take_message.ensures.result ∙ (ap (λ p. (desk_at c.args.self.now p).message) c.requires.sender ∙ message_there c.args.slots.now.past c.args.call.now.number c.args.receiving c.kept.ensures.legal c.requires.follows c.args.taken.now c.args.self.now c.requires.keeps))) in
    let buffers : c.take_buffers-buffers.result ≡ buffers_of c.args.slots.now.past c.args.receiving = c.take_buffers-buffers.ensures.result ∙ (ap (λ p. buffers_in (desk_at c.take_message.new.self p).told) c.requires.receiver ∙ buffers_there c.args.slots.now.past c.args.call.now.number c.args.receiving c.kept.ensures.legal c.requires.follows c.args.taken.now c.args.self.now c.requires.keeps c.take_message.new.self (subst (λ p. Changed p emptied c.args.self.now c.take_message.new.self) c.requires.sender c.take_message.ensures.desks)) in
    c.delivered.ensures ∙ ap (timed c.args.moment) (put_together c.args.slots.now.past c.args.call.now.number c.args.receiving c.kept.ensures.legal c.requires.follows c.in-Some.message c.args.call.now c.take_buffers-buffers.result message c.requires.call buffers)
