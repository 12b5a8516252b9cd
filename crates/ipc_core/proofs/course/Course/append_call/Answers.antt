use Rattle.ipc_laws.proofs.Calling.{alive}
use Rattle.ipc_core.proofs.ExchangeLemmas.{called_settled, exchange_continued, exchange_places, exchange_settled, exchange_spent}
use Rattle.ipc_core.proofs.course.Course.append_call.Goals as goal

pub receiver_for-requires : goal.receiver_for-requires
receiver_for-requires c = alive c.args.self.now.entries c.args.number c.args.caller c.args.call c.whole.ensures.legal c.requires.follows

pub exchange-requires-clause-room : goal.exchange-requires-clause-room
exchange-requires-clause-room c =
    let reaches = rw c.call.ensures at c.in-Some.ensures in
    exchange_places c.args.self.now.entries c.args.number c.args.caller c.in-Some.receiving c.args.call c.whole.ensures.legal c.requires.follows reaches c.args.self.now.room c.requires.room

pub returns-clause-continued : goal.returns-clause-continued
returns-clause-continued c =
    let reaches = rw c.call.ensures at c.in-Some.ensures in
    exchange_continued c.args.self.now.entries c.args.number c.args.caller c.in-Some.receiving c.args.call c.whole.ensures.legal c.requires.follows reaches c.exchange.new.self.entries c.exchange.ensures.entries

pub returns-clause-spent : goal.returns-clause-spent
returns-clause-spent c =
    let reaches = rw c.call.ensures at c.in-Some.ensures in
    rw c.exchange.ensures.entries (exchange_spent c.args.self.now.entries c.args.number c.args.caller c.in-Some.receiving c.args.call c.whole.ensures.legal c.requires.follows reaches)

pub waits-waits-requires : goal.waits-waits-requires
waits-waits-requires c = alive c.args.self.now.entries c.args.number c.args.caller c.args.call c.whole.ensures.legal c.requires.follows

pub rests-rests-requires : goal.rests-rests-requires
rests-rests-requires c = alive c.args.self.now.entries c.args.number c.args.caller c.args.call c.whole.ensures.legal c.requires.follows

pub returns-in_default-clause-settled : goal.returns-in_default-clause-settled
returns-in_default-clause-settled c = λ is.
    let waits = rw c.call-in_default.ensures at c.waits-waits.ensures in
    called_settled c.args.self.now.entries c.args.number c.args.caller c.args.call c.whole.ensures.legal c.requires.follows c.append.new.self.entries c.append.ensures.entries (waits is)

pub returns-clause-settled : goal.returns-clause-settled
returns-clause-settled c = λ is.
    let reaches = rw c.call.ensures at c.in-Some.ensures in
    let rests = rw c.call-2.ensures at c.rests-rests.ensures in
    exchange_settled c.args.self.now.entries c.args.number c.args.caller c.in-Some.receiving c.args.call c.whole.ensures.legal c.requires.follows reaches c.exchange.new.self.entries c.exchange.ensures.entries (rests is)
