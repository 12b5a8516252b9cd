use Rattle.std.proofs.Common.{ap, refl}
use Rattle.std.specs.Vec.{vec_items}
use Rattle.ipc_lock.proofs.Owned.{is_fresh}
use Rattle.ipc_lock.proofs.Together.{pen_is_new, tells_began}
use Rattle.ipc_lock.proofs.Turning.{turned}
use Rattle.ipc_lock.proofs.logged.Logged.connect.Goals as goal

pub invariant_of-self-in-Ok : goal.invariant_of-self-in-Ok
invariant_of-self-in-Ok g c =
    tells_began _ _ _ _ _ _ _ _ c.self.invariant c.begin-own.ensures.log refl c.begin-pen.ensures.log c.in-Some.ensures.some.1 (record {
      free = c.self.inside.inside.free.items;
      free_now = c.connect.new.self.free.items;
      out = _;
      failures = _;
      connects = c.in-Ok.ensures.fresh;
      is_new = c.in-Some.ensures.some.0;
      numbers = c.in-Some.ensures.some.1;
      owners = ap vec_items c.connect.ensures.owners;
      kernel = ap (λ l. l.kernel) c.connect.ensures.locked;
      upkeep = c.connect.ensures.upkeep;
    })

pub returns-in-Ok-clause-turned : goal.returns-in-Ok-clause-turned
returns-in-Ok-clause-turned g c =
    turned _ _ _ _ c.self.view_is c.self.invariant.runs c.begin-own.ensures.log (record {
      free = c.self.inside.inside.free.items;
      free_now = c.connect.new.self.free.items;
      out = _;
      failures = _;
      connects = c.in-Ok.ensures.fresh;
      is_new = c.in-Some.ensures.some.0;
      numbers = c.in-Some.ensures.some.1;
      owners = ap vec_items c.connect.ensures.owners;
      kernel = ap (λ l. l.kernel) c.connect.ensures.locked;
      upkeep = c.connect.ensures.upkeep;
    })

pub invariant_of-self-in-Err : goal.invariant_of-self-in-Err
invariant_of-self-in-Err g c =
    tells_began _ _ _ _ _ _ _ _ c.self.invariant c.add.ensures refl c.begin-pen.ensures.log c.in-Some.ensures.some.1 (record {
      is_new = c.in-Some.ensures.some.0;
      numbers = c.in-Some.ensures.some.1;
      boxes = c.in-Err.ensures.err;
      owners = ap vec_items c.connect.ensures.owners;
      kernel = ap (λ l. l.kernel) c.connect.ensures.locked;
      upkeep = c.connect.ensures.upkeep;
    })

pub begin-own-requires-clause-is_new : goal.begin-own-requires-clause-is_new
begin-own-requires-clause-is_new g c = is_fresh _ _ _ _ _ c.self.invariant.runs c.in-Some.ensures.some.0

pub begin-pen-requires : goal.begin-pen-requires
begin-pen-requires g c = pen_is_new _ _ _ _ _ _ c.self.invariant c.in-Some.ensures.some.0
