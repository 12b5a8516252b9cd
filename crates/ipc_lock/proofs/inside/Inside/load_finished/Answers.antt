use Rattle.std.proofs.Common.{refl, ap, ◌∙◌, subst, arith}
use Rattle.std.specs.Prelude.{slice_get}
use Rattle.std.specs.Vec.{vec_items}
use Rattle.ipc_seats.specs.Places.{LoadsOne, place_at}
use Rattle.ipc_seats.proofs.Moves.{loads_both, loads_none, only_both, only_none}
use Rattle.ipc_seats.proofs.Rows.{row_more, row_none}
use Rattle.ipc_lock.proofs.Handed.{hands_both, hands_none}
use Rattle.ipc_lock.proofs.inside.Inside.load_finished.Goals as goal

pub finished-init : goal.finished-init
finished-init g c = record { loads = row_none _ _ _; owners = refl; finished = refl; only = only_none _; stay = loads_none _; upkeep = refl; hands = hands_none _ _ }

pub finished-preserved : goal.finished-preserved
finished-preserved g c = record {
  loads = row_more _ _ _ _ _ _ _ _ _ _ _ _ (omega (arith, c.finished-test.true, c.len-index-end.ensures, c.args.self.now.finished.ok.0)) c.finished.invariant.loads
      (subst (λ o. LoadsOne (place_at o (slice_get c.args.self.now.finished.items c.finished.index)) c.finished.self.locked.kernel c.load_for.new.self.locked.kernel
      c.finished.self.boxes.items c.load_for.new.self.boxes.items c.finished.errands c.load_for.new.errands) (ap vec_items c.finished.invariant.owners)
      (subst (λ f. LoadsOne (place_at c.finished.self.owners.items (slice_get f c.finished.index)) c.finished.self.locked.kernel c.load_for.new.self.locked.kernel
      c.finished.self.boxes.items c.load_for.new.self.boxes.items c.finished.errands c.load_for.new.errands) (ap vec_items c.finished.invariant.finished)
      c.load_for.ensures.loads));
  owners = c.load_for.ensures.owners ∙ c.finished.invariant.owners;
  finished = c.load_for.ensures.finished ∙ c.finished.invariant.finished;
  only = only_both _ _ _ c.finished.invariant.only c.load_for.ensures.only;
  stay = loads_both _ _ _ c.finished.invariant.stay c.load_for.ensures.stay;
  upkeep = c.load_for.ensures.upkeep ∙ c.finished.invariant.upkeep;
  hands = hands_both _ _ _ _ _ _ c.finished.invariant.hands c.load_for.ensures.hands;
}
