use Rattle.std.proofs.Common.{ap, ◌∙◌}
use Rattle.ipc_words.specs.ThreadId.{number_of}
use Rattle.ipc_history.specs.Threads.{is_live}
use Rattle.ipc_laws.proofs.ExchangeParts.{receiver_open}
use Rattle.ipc_laws.proofs.OpenCalls.{caller_lives}
use Rattle.ipc_threads.proofs.CallSteps.{alive}
use Rattle.ipc_threads.proofs.Exchanged.{exchange_has, exchange_held, exchange_noted, exchanged_legal}
use Rattle.ipc_threads.proofs.slots.Slots.note_exchange.Goals as goal

pub place_of_thread-place-requires : goal.place_of_thread-place-requires
place_of_thread-place-requires c = alive c.args.self.now.past c.args.number c.args.caller c.args.call.now c.kept.ensures.legal c.requires.follows

pub place_of_thread-there-requires : goal.place_of_thread-there-requires
place_of_thread-there-requires c = ap (is_live c.args.self.now.past) (c.to.ensures ∙ c.requires.reaches.to) ∙ caller_lives c.args.self.now.past c.kept.ensures.legal c.args.receiving (receiver_open c.args.self.now.past c.args.number c.args.caller c.args.receiving c.args.call.now c.kept.ensures.legal c.requires.follows c.requires.reaches)

pub invariant_of-self : goal.invariant_of-self
invariant_of-self c =
    let follows = rw (← c.self.view_is) at c.requires.follows in
    let reaches = rw (← c.self.view_is) at c.requires.reaches in
    let after = rw (← c.self.view_is) at c.exchanged-after.ensures in
    let place = c.place_of_thread-place.ensures.place in
    let there = c.place_of_thread-there.ensures.place ∙ ap number_of c.to.ensures in
    rw (c.add-3.ensures, c.add-2.ensures, c.add.ensures, c.requires.entry, c.note_exchange.ensures) (record {
      legal = exchanged_legal c.self.inside.past c.args.number c.args.caller c.args.receiving c.args.call.now c.self.invariant.legal follows reaches c.self.inside.kept c.self.invariant.stands;
      stands = exchange_noted c.self.inside.past c.args.number c.args.caller c.args.receiving c.args.call.now c.self.invariant.legal follows reaches c.self.inside.kept c.self.invariant.stands c.place_of_thread-place.result c.place_of_thread-there.result c.exchanged-after.result place there after;
    })

pub returns-clause-changed : goal.returns-clause-changed
returns-clause-changed c =
    let follows = rw (← c.self.view_is) at c.requires.follows in
    let reaches = rw (← c.self.view_is) at c.requires.reaches in
    let place = c.place_of_thread-place.ensures.place in
    let there = c.place_of_thread-there.ensures.place ∙ ap number_of c.to.ensures in
    rw (c.note_exchange.ensures, ← c.self.view_is) (exchange_has c.self.inside.past c.args.number c.args.caller c.args.receiving c.args.call.now c.self.invariant.legal follows reaches c.self.inside.kept c.self.invariant.stands c.place_of_thread-place.result c.place_of_thread-there.result c.exchanged-after.result place there)

pub returns-clause-held : goal.returns-clause-held
returns-clause-held c =
    let follows = rw (← c.self.view_is) at c.requires.follows in
    let reaches = rw (← c.self.view_is) at c.requires.reaches in
    let after = rw (← c.self.view_is) at c.exchanged-after.ensures in
    let place = c.place_of_thread-place.ensures.place in
    let there = c.place_of_thread-there.ensures.place ∙ ap number_of c.to.ensures in
    let P = c.self.inside.past in
    let slots = c.self.inside.kept in
    let stand = exchange_noted P c.args.number c.args.caller c.args.receiving c.args.call.now c.self.invariant.legal follows reaches slots c.self.invariant.stands c.place_of_thread-place.result c.place_of_thread-there.result c.exchanged-after.result place there after in
    let held = exchange_held P c.args.number c.args.caller c.args.receiving c.args.call.now c.self.invariant.legal follows reaches slots c.self.invariant.stands _ stand in
    rw (c.add-3.ensures, c.add-2.ensures, c.add.ensures, c.requires.entry, c.note_exchange.ensures) held
