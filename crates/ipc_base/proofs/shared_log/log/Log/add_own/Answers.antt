use prog.Atomic.{either}
use Rattle.std.proofs.Common.{◌∙◌, ap, eqb, subst, sym}
use Rattle.ipc_base.specs.LogViews.{Known, joined}
use Rattle.ipc_base.specs.LogRules.{IsOnlyOf}
use Rattle.ipc_base.proofs.LogKeeping.{adds, goes, its_or_nobodys, parts, takes}
use Rattle.ipc_base.proofs.shared_log.log.Log.add_own.Goals as goal

pub split_seat-pass-requires : goal.split_seat-pass-requires
split_seat-pass-requires g c = (
  c.own.invariant.1 ∙ sym c.self.invariant.0,
  c.self.invariant.1,
  goes g.E.Entry.is_of g.E.Entry.begins g.E.Entry.ends _ _ _ (ap (λ m. m.0) c.own.invariant.2),
)

pub join_seat-requires : goal.join_seat-requires
join_seat-requires g c =
    let p = c.split_seat-pass.ensures in (
      c.keeper.invariant.0 ∙ sym c.self.invariant.0,
      p.3 ∙ (c.own.invariant.1 ∙ sym c.self.invariant.0),
      ap (λ m. m.1) p.4,
      c.self.invariant.1,
      takes g.E.Entry.is_of g.E.Entry.begins g.E.Entry.ends _ _ _ _ _ (ap (λ m. m.0) p.4 ∙ ap (λ m. m.0) c.own.invariant.2),
    )

pub compare_exchange_with-requires : goal.compare_exchange_with-requires
compare_exchange_with-requires g c =
    let p = c.split_seat-pass.ensures in
    let j = c.join_seat.ensures in
    let own = ap (λ m. m.0) p.4 ∙ ap (λ m. m.0) c.own.invariant.2 in (
      j.0 ∙ (c.keeper.invariant.0 ∙ sym c.self.invariant.0),
      c.self.invariant.1,
      adds g.E.Entry.is_of g.E.Entry.begins g.E.Entry.ends _ _ 0 0 0 (λ n. either (eqb n 0) 0 n) _ _ _ _ j.2 (ap (λ m. m.0.keeps) c.keeper.invariant.1)
          (its_or_nobodys g.E.Entry.is_of g.E.Entry.begins g.E.Entry.ends (joined c.keeper.inside.pass.me.0 c.split_seat-pass.result.me.0) c.args.entry.now c.own.inside.pass.me.0.number (ap (λ v. v.owns) own) (ap (λ v. v.number) own) (subst (λ (k : Known g.row.E.Denot). IsOnlyOf g.E.Entry.is_of c.args.entry.now k.number) (sym c.own.view_is) c.requires.only)) c.requires.lives,
    )

pub split_seat-requires : goal.split_seat-requires
split_seat-requires g c =
    let e = c.compare_exchange_with.ensures in
    let j = c.join_seat.ensures in
    let p = c.split_seat-pass.ensures in
    let own = ap (λ m. m.0) p.4 ∙ ap (λ m. m.0) c.own.invariant.2 in (
      e.0 ∙ (j.0 ∙ (c.keeper.invariant.0 ∙ sym c.self.invariant.0)),
      c.self.invariant.1,
      parts g.E.Entry.is_of g.E.Entry.begins g.E.Entry.ends _ _
          (ap (λ m. m.0.keeps) e.2.0 ∙ (ap (λ m. m.0.keeps) j.2 ∙ ap (λ m. m.0.keeps) c.keeper.invariant.1))
          (ap (λ m. m.0.owns) e.2.0 ∙ (ap (λ m. m.0.owns) j.2 ∙ ap (λ v. v.owns) own)),
    )
