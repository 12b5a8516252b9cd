use prog.Atomic.{either}
use Rattle.std.proofs.Common.{◌∙◌, ap, eqb, sym}
use Rattle.ipc_base.proofs.LogKeeping.{begins_one, parts}
use Rattle.ipc_base.proofs.shared_log.log.Log.begin.Goals as goal

pub compare_exchange_with-requires : goal.compare_exchange_with-requires
compare_exchange_with-requires g c = (
  c.keeper.invariant.0 ∙ sym c.self.invariant.0,
  c.self.invariant.1,
  begins_one g.E.Entry.is_of g.E.Entry.begins g.E.Entry.ends _ _ 0 0 0 (λ n. either (eqb n 0) 0 n) _ _ _ c.args.number c.keeper.invariant.1 c.requires.begins (rw c.keeper.view_is c.requires.is_new) c.requires.only c.requires.lives,
)

pub split_seat-pass-requires : goal.split_seat-pass-requires
split_seat-pass-requires g c =
    let e = c.compare_exchange_with.ensures in (
      e.0 ∙ (c.keeper.invariant.0 ∙ sym c.self.invariant.0),
      c.self.invariant.1,
      parts g.E.Entry.is_of g.E.Entry.begins g.E.Entry.ends _ _ (ap (λ m. m.0.keeps) e.2 ∙ ap (λ m. m.0.keeps) c.keeper.invariant.1) (ap (λ m. m.0.owns) e.2),
    )
