use Rattle.ipc_laws.proofs.ExchangeParts.{exchange_legal}
use Rattle.ipc_desks.proofs.ExchangeDesks.{exchange_finishes}
use Rattle.ipc_desks.proofs.desks.Desks.note_exchange.Goals as goal

pub invariant_of-self : goal.invariant_of-self
invariant_of-self c =
    let follows = rw (← c.self.view_is) at c.requires.follows in
    let reaches = rw (← c.self.view_is) at c.requires.reaches in
    let past = rw (← c.self.view_is) at c.requires.past in
    let keeps = rw past at c.exchange.ensures in
    rw (c.add-3.ensures, c.add-2.ensures, c.add.ensures, c.requires.entry) (record { legal = exchange_legal c.self.inside.past c.args.number c.args.caller c.args.receiving c.args.call.now c.self.invariant.legal follows reaches; keeps = keeps })

pub returns-clause-finished : goal.returns-clause-finished
returns-clause-finished c t = rw (c.at_once-finished.ensures, c.eq.ensures, c.from.ensures, c.to.ensures) (exchange_finishes c.args.self.now.past c.args.number c.args.caller c.args.receiving c.args.call.now c.kept.ensures.legal c.requires.follows c.requires.reaches t)
