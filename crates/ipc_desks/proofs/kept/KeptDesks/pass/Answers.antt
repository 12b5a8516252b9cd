use Rattle.std.proofs.Common.{sym, ◌∙◌}
use Rattle.std.proofs.lemmas.Option.{none-some, same_Some}
use Rattle.ipc_threads.proofs.Passed.{held_place, held_within}
use Rattle.ipc_desks.proofs.OutputDesks.{not_not}
use Rattle.ipc_desks.proofs.PassedDesks.{buffers_is, message_is, pass_done, pass_waits, told_fits, told_words}
use Rattle.ipc_desks.proofs.kept.KeptDesks.pass.Goals as goal

pub take_message-requires : goal.take_message-requires
take_message-requires c =
    let stands = rw c.kept.ensures.kept at c.kept.ensures.stands in
    rw c.requires.keeps.size (held_within c.args.slots.now.past c.args.slots.now.kept c.kept.ensures.legal stands c.args.pair.from c.args.pair.sending c.requires.held.sending)

pub unreachable-requires : goal.unreachable-requires
unreachable-requires c =
    let stands = rw c.kept.ensures.kept at c.kept.ensures.stands in
    let from = held_place c.args.slots.now.past c.args.slots.now.kept c.kept.ensures.legal stands c.args.pair.from c.args.pair.sending c.requires.held.sending in
    let to = held_place c.args.slots.now.past c.args.slots.now.kept c.kept.ensures.legal stands c.args.pair.to c.args.pair.receiving c.requires.held.receiving in
    none-some _ (sym c.in_default.is ∙ (c.take_message.ensures.result ∙ message_is c.args.slots.now.past c.args.pair.sending c.args.pair.receiving c.kept.ensures.legal c.requires.begins c.requires.ends c.args.sender.now c.requires.sender c.args.pair.from c.args.pair.to from to c.args.taken.now c.args.self.now c.requires.keeps))

pub take_buffers-buffers-requires : goal.take_buffers-buffers-requires
take_buffers-buffers-requires c =
    let stands = rw c.kept.ensures.kept at c.kept.ensures.stands in
    rw (c.take_message.ensures.desks.size, c.requires.keeps.size) (held_within c.args.slots.now.past c.args.slots.now.kept c.kept.ensures.legal stands c.args.pair.to c.args.pair.receiving c.requires.held.receiving)

pub delivered-outcome-requires-clause-fits : goal.delivered-outcome-requires-clause-fits
delivered-outcome-requires-clause-fits c =
    let stands = rw c.kept.ensures.kept at c.kept.ensures.stands in
    let from = held_place c.args.slots.now.past c.args.slots.now.kept c.kept.ensures.legal stands c.args.pair.from c.args.pair.sending c.requires.held.sending in
    let to = held_place c.args.slots.now.past c.args.slots.now.kept c.kept.ensures.legal stands c.args.pair.to c.args.pair.receiving c.requires.held.receiving in
    let message = same_Some c.in-Some.message _ (sym c.in-Some.is ∙ (c.take_message.ensures.result ∙ message_is c.args.slots.now.past c.args.pair.sending c.args.pair.receiving c.kept.ensures.legal c.requires.begins c.requires.ends c.args.sender.now c.requires.sender c.args.pair.from c.args.pair.to from to c.args.taken.now c.args.self.now c.requires.keeps)) in
    let buffers = c.take_buffers-buffers.ensures.result ∙ buffers_is c.args.slots.now.past c.args.pair.sending c.args.pair.receiving c.kept.ensures.legal c.requires.begins c.requires.ends c.args.sender.now c.requires.sender c.args.pair.from c.args.pair.to from to c.args.taken.now c.args.self.now c.requires.keeps c.take_message.new.self c.take_message.ensures.desks in
    told_fits c.args.slots.now.past c.args.pair.sending c.args.pair.receiving c.kept.ensures.legal c.requires.begins c.requires.ends c.args.sender.now c.requires.sender c.in-Some.message c.take_buffers-buffers.result message buffers

pub delivered-outcome-requires-clause-words : goal.delivered-outcome-requires-clause-words
delivered-outcome-requires-clause-words c =
    let stands = rw c.kept.ensures.kept at c.kept.ensures.stands in
    let from = held_place c.args.slots.now.past c.args.slots.now.kept c.kept.ensures.legal stands c.args.pair.from c.args.pair.sending c.requires.held.sending in
    let to = held_place c.args.slots.now.past c.args.slots.now.kept c.kept.ensures.legal stands c.args.pair.to c.args.pair.receiving c.requires.held.receiving in
    let message = same_Some c.in-Some.message _ (sym c.in-Some.is ∙ (c.take_message.ensures.result ∙ message_is c.args.slots.now.past c.args.pair.sending c.args.pair.receiving c.kept.ensures.legal c.requires.begins c.requires.ends c.args.sender.now c.requires.sender c.args.pair.from c.args.pair.to from to c.args.taken.now c.args.self.now c.requires.keeps)) in
    let buffers = c.take_buffers-buffers.ensures.result ∙ buffers_is c.args.slots.now.past c.args.pair.sending c.args.pair.receiving c.kept.ensures.legal c.requires.begins c.requires.ends c.args.sender.now c.requires.sender c.args.pair.from c.args.pair.to from to c.args.taken.now c.args.self.now c.requires.keeps c.take_message.new.self c.take_message.ensures.desks in
    told_words c.args.slots.now.past c.args.pair.sending c.args.pair.receiving c.kept.ensures.legal c.requires.begins c.requires.ends c.args.sender.now c.requires.sender c.in-Some.message c.take_buffers-buffers.result message buffers

pub finish-requires : goal.finish-requires
finish-requires c =
    let stands = rw c.kept.ensures.kept at c.kept.ensures.stands in
    rw (c.take_buffers-buffers.ensures.desks.size, c.take_message.ensures.desks.size, c.requires.keeps.size) (held_within c.args.slots.now.past c.args.slots.now.kept c.kept.ensures.legal stands c.args.pair.to c.args.pair.receiving c.requires.held.receiving)

pub returns-then-ne : goal.returns-then-ne
returns-then-ne c =
    let stands = rw c.kept.ensures.kept at c.kept.ensures.stands in
    let from = held_place c.args.slots.now.past c.args.slots.now.kept c.kept.ensures.legal stands c.args.pair.from c.args.pair.sending c.requires.held.sending in
    let to = held_place c.args.slots.now.past c.args.slots.now.kept c.kept.ensures.legal stands c.args.pair.to c.args.pair.receiving c.requires.held.receiving in
    let message = same_Some c.in-Some.message _ (sym c.in-Some.is ∙ (c.take_message.ensures.result ∙ message_is c.args.slots.now.past c.args.pair.sending c.args.pair.receiving c.kept.ensures.legal c.requires.begins c.requires.ends c.args.sender.now c.requires.sender c.args.pair.from c.args.pair.to from to c.args.taken.now c.args.self.now c.requires.keeps)) in
    let buffers = c.take_buffers-buffers.ensures.result ∙ buffers_is c.args.slots.now.past c.args.pair.sending c.args.pair.receiving c.kept.ensures.legal c.requires.begins c.requires.ends c.args.sender.now c.requires.sender c.args.pair.from c.args.pair.to from to c.args.taken.now c.args.self.now c.requires.keeps c.take_message.new.self c.take_message.ensures.desks in
    let finishes = rw c.delivered-outcome.ensures at c.finish.ensures in
    pass_waits c.args.slots.now.past c.args.pair.sending c.args.pair.receiving c.kept.ensures.legal c.requires.begins c.requires.ends c.args.sender.now c.requires.sender c.args.pair.from c.args.pair.to from to c.args.taken.now c.args.self.now c.requires.keeps c.take_message.new.self c.take_message.ensures.desks c.take_buffers-buffers.new.self c.finish.new.self c.take_buffers-buffers.ensures.desks c.in-Some.message c.take_buffers-buffers.result message buffers c.now-moment.result c.now-moment.ensures finishes (sym c.ne.ensures ∙ c.if-ne.true)

pub returns : goal.returns
returns c =
    let stands = rw c.kept.ensures.kept at c.kept.ensures.stands in
    let from = held_place c.args.slots.now.past c.args.slots.now.kept c.kept.ensures.legal stands c.args.pair.from c.args.pair.sending c.requires.held.sending in
    let to = held_place c.args.slots.now.past c.args.slots.now.kept c.kept.ensures.legal stands c.args.pair.to c.args.pair.receiving c.requires.held.receiving in
    let message = same_Some c.in-Some.message _ (sym c.in-Some.is ∙ (c.take_message.ensures.result ∙ message_is c.args.slots.now.past c.args.pair.sending c.args.pair.receiving c.kept.ensures.legal c.requires.begins c.requires.ends c.args.sender.now c.requires.sender c.args.pair.from c.args.pair.to from to c.args.taken.now c.args.self.now c.requires.keeps)) in
    let buffers = c.take_buffers-buffers.ensures.result ∙ buffers_is c.args.slots.now.past c.args.pair.sending c.args.pair.receiving c.kept.ensures.legal c.requires.begins c.requires.ends c.args.sender.now c.requires.sender c.args.pair.from c.args.pair.to from to c.args.taken.now c.args.self.now c.requires.keeps c.take_message.new.self c.take_message.ensures.desks in
    let finishes = rw c.delivered-outcome.ensures at c.finish.ensures in
    let done = rw c.nothing.ensures at c.finish-2.ensures in
    pass_done c.args.slots.now.past c.args.pair.sending c.args.pair.receiving c.kept.ensures.legal c.requires.begins c.requires.ends c.args.sender.now c.requires.sender c.args.pair.from c.args.pair.to from to c.args.taken.now c.args.self.now c.requires.keeps c.take_message.new.self c.take_message.ensures.desks c.take_buffers-buffers.new.self c.finish.new.self c.take_buffers-buffers.ensures.desks c.in-Some.message c.take_buffers-buffers.result message buffers c.now-moment.result c.now-moment.ensures finishes c.finish-2.new.self done (not_not _ (sym c.ne.ensures ∙ c.if-ne.false))
