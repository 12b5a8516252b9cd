use Rattle.std.proofs.Common.{◌∙◌, ap, sym}
use Rattle.ipc_base.proofs.LogKeeping.{compares, meets}
use Rattle.ipc_base.proofs.shared_log.log.Log.compare.Goals as goal

pub join_seat-requires : goal.join_seat-requires
join_seat-requires g c = (
  c.one.invariant.0 ∙ sym c.self.invariant.0,
  c.other.invariant.0 ∙ sym c.self.invariant.0,
  ap (λ m. m.1) c.other.invariant.1,
  c.self.invariant.1,
  meets g.E.Entry.is_of g.E.Entry.begins g.E.Entry.ends _ _ _ _ _ _ (ap (λ m. m.0) c.one.invariant.1) (ap (λ m. m.0) c.other.invariant.1),
)

pub load-requires : goal.load-requires
load-requires g c = (
  c.join_seat.ensures.0 ∙ (c.one.invariant.0 ∙ sym c.self.invariant.0),
  c.self.invariant.1,
  compares g.E.Entry.is_of g.E.Entry.begins g.E.Entry.ends _ _ 0 0 0 (λ n. n) _,
)
