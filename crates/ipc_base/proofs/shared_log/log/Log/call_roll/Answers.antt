use Rattle.std.proofs.Common.{◌∙◌, ap, sym}
use Rattle.ipc_base.proofs.LogKeeping.{calls, parts_roll, roll_goes, takes_roll}
use Rattle.ipc_base.proofs.shared_log.log.Log.call_roll.Goals as goal

pub split_seat-pass-requires : goal.split_seat-pass-requires
split_seat-pass-requires g c = (
  c.roll.invariant.0 ∙ sym c.self.invariant.0,
  c.self.invariant.1,
  roll_goes g.E.Entry.is_of g.E.Entry.begins g.E.Entry.ends _ _ _ (ap (λ m. m.0) c.roll.invariant.1),
)

pub join_seat-requires : goal.join_seat-requires
join_seat-requires g c =
    let p = c.split_seat-pass.ensures in (
      c.keeper.invariant.0 ∙ sym c.self.invariant.0,
      p.3 ∙ (c.roll.invariant.0 ∙ sym c.self.invariant.0),
      ap (λ m. m.1) p.4,
      c.self.invariant.1,
      takes_roll g.E.Entry.is_of g.E.Entry.begins g.E.Entry.ends _ _ _ _ _ (ap (λ m. m.0) p.4 ∙ ap (λ m. m.0) c.roll.invariant.1),
    )

pub load-requires : goal.load-requires
load-requires g c =
    let p = c.split_seat-pass.ensures in
    let j = c.join_seat.ensures in (
      j.0 ∙ (c.keeper.invariant.0 ∙ sym c.self.invariant.0),
      c.self.invariant.1,
      calls g.E.Entry.is_of g.E.Entry.begins g.E.Entry.ends _ _ 0 0 0 (λ n. n) _ _ _ j.2 (ap (λ m. m.0.keeps) c.keeper.invariant.1)
          (ap (λ m. m.0.gathers) p.4 ∙ ap (λ m. m.0.gathers) c.roll.invariant.1),
    )

pub split_seat-requires : goal.split_seat-requires
split_seat-requires g c =
    let e = c.load.ensures in
    let j = c.join_seat.ensures in (
      e.0 ∙ (j.0 ∙ (c.keeper.invariant.0 ∙ sym c.self.invariant.0)),
      c.self.invariant.1,
      parts_roll g.E.Entry.is_of g.E.Entry.begins g.E.Entry.ends _ _ (ap (λ m. m.0.keeps) e.2.0) (ap (λ m. m.0.gathers) e.2.0),
    )
