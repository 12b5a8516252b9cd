use Rattle.std.proofs.Common.{ap, refl}
use Rattle.ipc_seats.proofs.Giving.{gives_same}
use Rattle.ipc_lock.proofs.Handed.{no_pen_there, wrote_if}
use Rattle.ipc_lock.proofs.Together.{tells_on}
use Rattle.ipc_lock.proofs.logged.Logged.release.Goals as goal

pub invariant_of-self : goal.invariant_of-self
invariant_of-self g c =
    tells_on _ _ _ _ _ _ _ c.self.invariant c.end.ensures.log (gives_same _ _ c.port_of-port.ensures.log) refl (record {
      boxes = c.release-pen.ensures.clears;
      owners = c.release-pen.ensures.disowns;
      numbers = refl;
      kernel = ap (λ l. l.kernel) c.release-pen.ensures.locked;
      upkeep = c.release-pen.ensures.upkeep;
    })

pub returns-clause-wrote : goal.returns-clause-wrote
returns-clause-wrote g c =
    wrote_if c.port_of-port.result _ _ _ c.self.inside.gifts _ _ c.self.view_is c.number-number.ensures c.self.invariant.gifts_are c.port_of-port.ensures.wrote

pub returns-clause-none : goal.returns-clause-none
returns-clause-none g c =
    no_pen_there c.port_of-port.result c.release-pen.result _ _ _ _ _ c.self.view_is c.number-number.ensures c.release-pen.ensures.pen c.port_of-port.ensures.none
