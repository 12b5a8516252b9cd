use Rattle.std.proofs.Common.{sym, ap, ◌∙◌, ◌==◌, not, arith}
use Rattle.ipc_words.specs.ThreadId.{nilthread, number_of}
use Rattle.ipc_desks.specs.Desks.{desk_at}
use Rattle.ipc_desks.specs.Steps.{buffers_in}
use Rattle.ipc_desks.proofs.CalledDesks.{made_fits}
use Rattle.ipc_desks.proofs.ExchangeDesks.{between, between_enters, between_sends, buffers_is, exchange_done, exchange_waits, here_within, sent_is, there_within, told_fits, told_words}
use Rattle.ipc_desks.proofs.OutputDesks.{not_not}
use Rattle.ipc_desks.proofs.kept.KeptDesks.exchange.Goals as goal

pub send-message-requires-clause-within : goal.send-message-requires-clause-within
send-message-requires-clause-within c = let within = here_within c.args.slots.now.past c.args.number c.args.caller c.args.receiving c.args.call.now c.kept.ensures.legal c.requires.follows c.requires.reaches in let size = c.requires.keeps.size in rw (c.number-place.ensures, size) within

pub send-message-requires-clause-few : goal.send-message-requires-clause-few
send-message-requires-clause-few c = rw c.number-place.ensures (made_fits c.args.slots.now.past c.args.self.now c.args.taken.now c.args.number c.args.caller c.args.call.now c.kept.ensures.legal c.requires.follows c.requires.keeps (omega (arith, c.ranges.number.fits)))

pub take_buffers-buffers-requires : goal.take_buffers-buffers-requires
take_buffers-buffers-requires c = rw (c.number-there.ensures, c.to.ensures, c.send-message.ensures.desks.size, c.requires.keeps.size) (there_within c.args.slots.now.past c.args.number c.args.caller c.args.receiving c.args.call.now c.kept.ensures.legal c.requires.follows c.requires.reaches)

pub finish-requires : goal.finish-requires
finish-requires c = rw (c.number-there.ensures, c.to.ensures, c.take_buffers-buffers.ensures.desks.size, c.send-message.ensures.desks.size, c.requires.keeps.size) (there_within c.args.slots.now.past c.args.number c.args.caller c.args.receiving c.args.call.now c.kept.ensures.legal c.requires.follows c.requires.reaches)

pub delivered-outcome-requires-clause-fits : goal.delivered-outcome-requires-clause-fits
delivered-outcome-requires-clause-fits c =
    let there = c.number-there.ensures ∙ ap number_of c.to.ensures in
    let sends = rw (c.number-place.ensures, c.requires.copies) at c.send-message.ensures.desks in
    let takes = between_sends c.args.slots.now.past c.args.number c.args.caller c.args.receiving c.args.call.now c.kept.ensures.legal c.requires.follows c.requires.reaches c.args.self.now c.send-message.new.self c.requires.keeps.size sends in
    let message = c.send-message.ensures.message ∙ (ap (λ p. p.message) c.requires.copies ∙ sent_is c.args.slots.now.past c.args.number c.args.caller c.args.receiving c.args.call.now c.kept.ensures.legal c.requires.follows c.requires.reaches c.args.taken.now c.args.self.now c.requires.keeps c.requires.idle (between c.args.slots.now.past c.args.number c.args.caller c.args.receiving c.args.call.now c.kept.ensures.legal c.requires.follows c.requires.reaches c.args.self.now) (between_enters c.args.slots.now.past c.args.number c.args.caller c.args.receiving c.args.call.now c.kept.ensures.legal c.requires.follows c.requires.reaches c.args.self.now c.requires.keeps.size)) in
    let buffers = c.take_buffers-buffers.ensures.result ∙ (ap (λ p. buffers_in (desk_at c.send-message.new.self p).told) there ∙ buffers_is c.args.slots.now.past c.args.number c.args.caller c.args.receiving c.args.call.now c.kept.ensures.legal c.requires.follows c.requires.reaches c.args.taken.now c.args.self.now c.requires.keeps c.requires.idle (between c.args.slots.now.past c.args.number c.args.caller c.args.receiving c.args.call.now c.kept.ensures.legal c.requires.follows c.requires.reaches c.args.self.now) (between_enters c.args.slots.now.past c.args.number c.args.caller c.args.receiving c.args.call.now c.kept.ensures.legal c.requires.follows c.requires.reaches c.args.self.now c.requires.keeps.size) c.send-message.new.self takes) in
    told_fits c.args.slots.now.past c.args.number c.args.caller c.args.receiving c.args.call.now c.kept.ensures.legal c.requires.follows c.requires.reaches c.send-message.result c.take_buffers-buffers.result message buffers

pub delivered-outcome-requires-clause-words : goal.delivered-outcome-requires-clause-words
delivered-outcome-requires-clause-words c =
    let there = c.number-there.ensures ∙ ap number_of c.to.ensures in
    let sends = rw (c.number-place.ensures, c.requires.copies) at c.send-message.ensures.desks in
    let takes = between_sends c.args.slots.now.past c.args.number c.args.caller c.args.receiving c.args.call.now c.kept.ensures.legal c.requires.follows c.requires.reaches c.args.self.now c.send-message.new.self c.requires.keeps.size sends in
    let message = c.send-message.ensures.message ∙ (ap (λ p. p.message) c.requires.copies ∙ sent_is c.args.slots.now.past c.args.number c.args.caller c.args.receiving c.args.call.now c.kept.ensures.legal c.requires.follows c.requires.reaches c.args.taken.now c.args.self.now c.requires.keeps c.requires.idle (between c.args.slots.now.past c.args.number c.args.caller c.args.receiving c.args.call.now c.kept.ensures.legal c.requires.follows c.requires.reaches c.args.self.now) (between_enters c.args.slots.now.past c.args.number c.args.caller c.args.receiving c.args.call.now c.kept.ensures.legal c.requires.follows c.requires.reaches c.args.self.now c.requires.keeps.size)) in
    let buffers = c.take_buffers-buffers.ensures.result ∙ (ap (λ p. buffers_in (desk_at c.send-message.new.self p).told) there ∙ buffers_is c.args.slots.now.past c.args.number c.args.caller c.args.receiving c.args.call.now c.kept.ensures.legal c.requires.follows c.requires.reaches c.args.taken.now c.args.self.now c.requires.keeps c.requires.idle (between c.args.slots.now.past c.args.number c.args.caller c.args.receiving c.args.call.now c.kept.ensures.legal c.requires.follows c.requires.reaches c.args.self.now) (between_enters c.args.slots.now.past c.args.number c.args.caller c.args.receiving c.args.call.now c.kept.ensures.legal c.requires.follows c.requires.reaches c.args.self.now c.requires.keeps.size) c.send-message.new.self takes) in
    told_words c.args.slots.now.past c.args.number c.args.caller c.args.receiving c.args.call.now c.kept.ensures.legal c.requires.follows c.requires.reaches c.send-message.result c.take_buffers-buffers.result message buffers

pub returns-then-ne : goal.returns-then-ne
returns-then-ne c =
    let there = c.number-there.ensures ∙ ap number_of c.to.ensures in
    let sends = rw (c.number-place.ensures, c.requires.copies) at c.send-message.ensures.desks in
    let takes = between_sends c.args.slots.now.past c.args.number c.args.caller c.args.receiving c.args.call.now c.kept.ensures.legal c.requires.follows c.requires.reaches c.args.self.now c.send-message.new.self c.requires.keeps.size sends in
    let message = c.send-message.ensures.message ∙ (ap (λ p. p.message) c.requires.copies ∙ sent_is c.args.slots.now.past c.args.number c.args.caller c.args.receiving c.args.call.now c.kept.ensures.legal c.requires.follows c.requires.reaches c.args.taken.now c.args.self.now c.requires.keeps c.requires.idle (between c.args.slots.now.past c.args.number c.args.caller c.args.receiving c.args.call.now c.kept.ensures.legal c.requires.follows c.requires.reaches c.args.self.now) (between_enters c.args.slots.now.past c.args.number c.args.caller c.args.receiving c.args.call.now c.kept.ensures.legal c.requires.follows c.requires.reaches c.args.self.now c.requires.keeps.size)) in
    let buffers = c.take_buffers-buffers.ensures.result ∙ (ap (λ p. buffers_in (desk_at c.send-message.new.self p).told) there ∙ buffers_is c.args.slots.now.past c.args.number c.args.caller c.args.receiving c.args.call.now c.kept.ensures.legal c.requires.follows c.requires.reaches c.args.taken.now c.args.self.now c.requires.keeps c.requires.idle (between c.args.slots.now.past c.args.number c.args.caller c.args.receiving c.args.call.now c.kept.ensures.legal c.requires.follows c.requires.reaches c.args.self.now) (between_enters c.args.slots.now.past c.args.number c.args.caller c.args.receiving c.args.call.now c.kept.ensures.legal c.requires.follows c.requires.reaches c.args.self.now c.requires.keeps.size) c.send-message.new.self takes) in
    let unbuffers = rw there at c.take_buffers-buffers.ensures.desks in
    let finishes = rw (there, c.delivered-outcome.ensures) at c.finish.ensures in
    exchange_waits c.args.slots.now.past c.args.number c.args.caller c.args.receiving c.args.call.now c.kept.ensures.legal c.requires.follows c.requires.reaches c.args.taken.now c.args.self.now c.requires.keeps c.requires.idle (between c.args.slots.now.past c.args.number c.args.caller c.args.receiving c.args.call.now c.kept.ensures.legal c.requires.follows c.requires.reaches c.args.self.now) (between_enters c.args.slots.now.past c.args.number c.args.caller c.args.receiving c.args.call.now c.kept.ensures.legal c.requires.follows c.requires.reaches c.args.self.now c.requires.keeps.size) c.send-message.new.self takes c.take_buffers-buffers.new.self c.finish.new.self unbuffers c.send-message.result c.take_buffers-buffers.result message buffers c.now-moment.result c.now-moment.ensures finishes (ap (λ f. not (f == nilthread)) (sym c.from.ensures) ∙ (sym c.ne.ensures ∙ c.if-ne.true))

pub returns : goal.returns
returns c =
    let there = c.number-there.ensures ∙ ap number_of c.to.ensures in
    let sends = rw (c.number-place.ensures, c.requires.copies) at c.send-message.ensures.desks in
    let takes = between_sends c.args.slots.now.past c.args.number c.args.caller c.args.receiving c.args.call.now c.kept.ensures.legal c.requires.follows c.requires.reaches c.args.self.now c.send-message.new.self c.requires.keeps.size sends in
    let message = c.send-message.ensures.message ∙ (ap (λ p. p.message) c.requires.copies ∙ sent_is c.args.slots.now.past c.args.number c.args.caller c.args.receiving c.args.call.now c.kept.ensures.legal c.requires.follows c.requires.reaches c.args.taken.now c.args.self.now c.requires.keeps c.requires.idle (between c.args.slots.now.past c.args.number c.args.caller c.args.receiving c.args.call.now c.kept.ensures.legal c.requires.follows c.requires.reaches c.args.self.now) (between_enters c.args.slots.now.past c.args.number c.args.caller c.args.receiving c.args.call.now c.kept.ensures.legal c.requires.follows c.requires.reaches c.args.self.now c.requires.keeps.size)) in
    let buffers = c.take_buffers-buffers.ensures.result ∙ (ap (λ p. buffers_in (desk_at c.send-message.new.self p).told) there ∙ buffers_is c.args.slots.now.past c.args.number c.args.caller c.args.receiving c.args.call.now c.kept.ensures.legal c.requires.follows c.requires.reaches c.args.taken.now c.args.self.now c.requires.keeps c.requires.idle (between c.args.slots.now.past c.args.number c.args.caller c.args.receiving c.args.call.now c.kept.ensures.legal c.requires.follows c.requires.reaches c.args.self.now) (between_enters c.args.slots.now.past c.args.number c.args.caller c.args.receiving c.args.call.now c.kept.ensures.legal c.requires.follows c.requires.reaches c.args.self.now c.requires.keeps.size) c.send-message.new.self takes) in
    let unbuffers = rw there at c.take_buffers-buffers.ensures.desks in
    let finishes = rw (there, c.delivered-outcome.ensures) at c.finish.ensures in
    let done = rw (c.number-place.ensures, c.nothing.ensures) at c.finish-2.ensures in
    exchange_done c.args.slots.now.past c.args.number c.args.caller c.args.receiving c.args.call.now c.kept.ensures.legal c.requires.follows c.requires.reaches c.args.taken.now c.args.self.now c.requires.keeps c.requires.idle (between c.args.slots.now.past c.args.number c.args.caller c.args.receiving c.args.call.now c.kept.ensures.legal c.requires.follows c.requires.reaches c.args.self.now) (between_enters c.args.slots.now.past c.args.number c.args.caller c.args.receiving c.args.call.now c.kept.ensures.legal c.requires.follows c.requires.reaches c.args.self.now c.requires.keeps.size) c.send-message.new.self takes c.take_buffers-buffers.new.self c.finish.new.self unbuffers c.send-message.result c.take_buffers-buffers.result message buffers c.now-moment.result c.now-moment.ensures finishes c.finish-2.new.self done (ap (λ f. f == nilthread) (sym c.from.ensures) ∙ not_not _ (sym c.ne.ensures ∙ c.if-ne.false))
