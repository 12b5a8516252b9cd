use Rattle.std.proofs.Common.{◌<◌, length}
use Rattle.ipc_threads.proofs.Passed.{held_place, held_within}
use Rattle.ipc_compact.proofs.PassLemmas.{pass_knows}
use Rattle.ipc_compact.proofs.kept.KeptPartners.note_pass.Goals as goal

pub set_receiver-requires : goal.set_receiver-requires
set_receiver-requires c = held_within c.args.slots.now.past c.args.slots.now.kept c.kept.ensures.legal (rw c.kept.ensures.kept at c.kept.ensures.stands) c.args.pair.from c.args.pair.sending c.requires.held.sending

pub set_sender-requires : goal.set_sender-requires
set_sender-requires c = held_within c.args.slots.now.past c.args.slots.now.kept c.kept.ensures.legal (rw c.kept.ensures.kept at c.kept.ensures.stands) c.args.pair.to c.args.pair.receiving c.requires.held.receiving

pub returns : goal.returns
returns c =
    let stands = rw c.kept.ensures.kept at c.kept.ensures.stands in
    let from = held_place c.args.slots.now.past c.args.slots.now.kept c.kept.ensures.legal stands c.args.pair.from c.args.pair.sending c.requires.held.sending in
    let to = held_place c.args.slots.now.past c.args.slots.now.kept c.kept.ensures.legal stands c.args.pair.to c.args.pair.receiving c.requires.held.receiving in
    let in_first : c.args.pair.from < length c.args.self.now = rw c.requires.knows.size (held_within c.args.slots.now.past c.args.slots.now.kept c.kept.ensures.legal stands c.args.pair.from c.args.pair.sending c.requires.held.sending) in
    let in_second : c.args.pair.to < length c.args.self.now = rw c.requires.knows.size (held_within c.args.slots.now.past c.args.slots.now.kept c.kept.ensures.legal stands c.args.pair.to c.args.pair.receiving c.requires.held.receiving) in
    pass_knows c.args.slots.now.past c.args.pair.sending c.args.pair.receiving c.kept.ensures.legal c.requires.begins c.requires.ends c.args.self.now c.requires.knows c.args.pair.from c.args.pair.to from to in_first in_second c.held_partner-sender.result c.held_partner-receiver.result c.held_partner-sender.ensures c.held_partner-receiver.ensures c.set_receiver.new.self c.set_sender.new.self c.set_receiver.ensures c.set_sender.ensures
