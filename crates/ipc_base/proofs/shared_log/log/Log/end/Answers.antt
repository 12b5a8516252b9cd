use prog.Atomic.{either}
use Rattle.std.proofs.Common.{◌≡◌, ◌∷◌, [], ◌∙◌, ap, eqb, subst, sym}
use Rattle.ipc_base.specs.LogViews.{Known}
use Rattle.ipc_base.specs.LogRules.{IsOnlyOf}
use Rattle.ipc_base.proofs.LogKeeping.{ends_one, parts_roll, roll_goes, takes, takes_roll}
use Rattle.ipc_base.proofs.shared_log.log.Log.end.Goals as goal

pub split_seat-pass_of_roll-requires : goal.split_seat-pass_of_roll-requires
split_seat-pass_of_roll-requires g c = (
  c.roll.invariant.0 ∙ sym c.self.invariant.0,
  c.self.invariant.1,
  roll_goes g.E.Entry.is_of g.E.Entry.begins g.E.Entry.ends _ _ _ (ap (λ m. m.0) c.roll.invariant.1),
)

pub join_seat-requires : goal.join_seat-requires
join_seat-requires g c =
    let p = c.split_seat-pass_of_roll.ensures in (
      c.keeper.invariant.0 ∙ sym c.self.invariant.0,
      p.3 ∙ (c.roll.invariant.0 ∙ sym c.self.invariant.0),
      ap (λ m. m.1) p.4,
      c.self.invariant.1,
      takes_roll g.E.Entry.is_of g.E.Entry.begins g.E.Entry.ends _ _ _ _ _ (ap (λ m. m.0) p.4 ∙ ap (λ m. m.0) c.roll.invariant.1),
    )

pub join_seat-requires-2 : goal.join_seat-requires-2
join_seat-requires-2 g c =
    let j = c.join_seat.ensures in (
      j.0 ∙ (c.keeper.invariant.0 ∙ sym c.self.invariant.0),
      c.own.invariant.1 ∙ sym c.self.invariant.0,
      ap (λ m. m.1) c.own.invariant.2,
      c.self.invariant.1,
      takes g.E.Entry.is_of g.E.Entry.begins g.E.Entry.ends _ _ _ _ _ (ap (λ m. m.0) c.own.invariant.2),
    )

pub compare_exchange_with-requires : goal.compare_exchange_with-requires
compare_exchange_with-requires g c =
    let p = c.split_seat-pass_of_roll.ensures in
    let j = c.join_seat.ensures in
    let k = c.join_seat-2.ensures in (
      k.0 ∙ (j.0 ∙ (c.keeper.invariant.0 ∙ sym c.self.invariant.0)),
      c.self.invariant.1,
      ends_one g.E.Entry.is_of g.E.Entry.begins g.E.Entry.ends _ _ 0 0 0 (λ n. either (eqb n 0) 0 n) _ _ _ _ k.2
          (ap (λ m. m.0.keeps) j.2 ∙ ap (λ m. m.0.keeps) c.keeper.invariant.1)
          (ap (λ m. m.0.owns) c.own.invariant.2)
          (ap (λ m. m.0.gathers) j.2 ∙ (ap (λ m. m.0.gathers) p.4 ∙ ap (λ m. m.0.gathers) c.roll.invariant.1))
          (subst (λ (k : Known g.row.E.Denot). IsOnlyOf g.E.Entry.is_of c.args.entry.now k.number) (sym c.own.view_is) c.requires.only)
          (subst (λ (k : Known g.row.E.Denot). g.E.Entry.ends c.args.entry.now ≡ k.number ∷ []) (sym c.own.view_is) c.requires.ends),
    )

pub split_seat-requires : goal.split_seat-requires
split_seat-requires g c =
    let e = c.compare_exchange_with.ensures in
    let j = c.join_seat.ensures in
    let k = c.join_seat-2.ensures in (
      e.0 ∙ (k.0 ∙ (j.0 ∙ (c.keeper.invariant.0 ∙ sym c.self.invariant.0))),
      c.self.invariant.1,
      parts_roll g.E.Entry.is_of g.E.Entry.begins g.E.Entry.ends _ _ (ap (λ m. m.0.keeps) e.2.0) (ap (λ m. m.0.gathers) e.2.0),
    )
