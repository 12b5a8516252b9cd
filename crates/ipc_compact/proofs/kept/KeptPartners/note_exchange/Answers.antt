use Rattle.std.proofs.Common.{ap, ◌∙◌}
use Rattle.ipc_words.specs.ThreadId.{number_of}
use Rattle.ipc_laws.proofs.ExchangeParts.{receiver_open}
use Rattle.ipc_compact.proofs.ExchangeLemmas.{exchanged_knows, here_within, there_within}
use Rattle.ipc_compact.proofs.kept.KeptPartners.note_exchange.Goals as goal

pub known_partner-receiver-requires-clause-open : goal.known_partner-receiver-requires-clause-open
known_partner-receiver-requires-clause-open c = receiver_open c.args.slots.now.past c.args.number c.args.caller c.args.receiving c.args.call.now c.kept.ensures.legal c.requires.follows c.requires.reaches

pub known_partner-receiver-requires-clause-place : goal.known_partner-receiver-requires-clause-place
known_partner-receiver-requires-clause-place c = c.number-there.ensures ∙ ap number_of (c.to.ensures ∙ c.requires.reaches.to)

pub known_partner-receiver-requires-clause-within : goal.known_partner-receiver-requires-clause-within
known_partner-receiver-requires-clause-within c = rw (c.number-there.ensures, c.to.ensures) (there_within c.args.slots.now.past c.args.number c.args.caller c.args.receiving c.args.call.now c.kept.ensures.legal c.args.self.now c.requires.knows c.requires.follows c.requires.reaches)

pub set-requires : goal.set-requires
set-requires c = rw c.number-place.ensures (here_within c.args.slots.now.past c.args.number c.args.caller c.args.receiving c.args.call.now c.kept.ensures.legal c.args.self.now c.requires.knows c.requires.follows c.requires.reaches)

pub set_sender-requires : goal.set_sender-requires
set_sender-requires c = rw (c.number-there.ensures, c.to.ensures) (there_within c.args.slots.now.past c.args.number c.args.caller c.args.receiving c.args.call.now c.kept.ensures.legal c.args.self.now c.requires.knows c.requires.follows c.requires.reaches)

pub returns : goal.returns
returns c = exchanged_knows c.args.slots.now.past c.args.number c.args.caller c.args.receiving c.args.call.now c.kept.ensures.legal c.args.self.now c.requires.knows c.requires.follows c.requires.reaches c.number-place.result c.number-there.result c.known_partner-receiver.result c.set.new.self c.set_sender.new.self c.number-place.ensures (c.number-there.ensures ∙ ap number_of c.to.ensures) c.known_partner-receiver.ensures c.set.ensures c.set_sender.ensures
