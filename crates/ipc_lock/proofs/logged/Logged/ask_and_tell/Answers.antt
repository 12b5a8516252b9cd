use Rattle.std.proofs.Common.{refl}
use Rattle.ipc_lock.proofs.Handed.{hands_all}
use Rattle.ipc_lock.proofs.Together.{tells_on}
use Rattle.ipc_lock.proofs.Turning.{one_only}
use Rattle.ipc_lock.proofs.logged.Logged.ask_and_tell.Goals as goal

pub invariant_of-self : goal.invariant_of-self
invariant_of-self g c =
    tells_on _ _ _ _ _ _ _ c.self.invariant c.add_own.ensures.log
    (hands_all _ _ _ _ _ c.requires.none c.gifts.ensures c.ask_and_tell-calls.ensures.hands) refl (record {
      is_its = c.number_at-number.ensures;
      request = c.args.request;
      is_it = one_only _ _ _ c.new-requests.ensures c.add.ensures;
      seat = c.args.seat;
      errands = c.ask_and_tell-calls.new.errands;
      gifts_are = c.gifts.ensures;
      asks = rw (← c.requires.none) c.ask_and_tell-calls.ensures.asks;
      owners = c.ask_and_tell-calls.ensures.owners;
      numbers = refl;
    })
