use Rattle.std.proofs.Common.{ap}
use Rattle.ipc_base.proofs.LogKeeping.{parts_roll}
use Rattle.ipc_base.proofs.shared_log.log.Blank.open.Goals as goal

pub split_seat-pass_of_roll-requires : goal.split_seat-pass_of_roll-requires
split_seat-pass_of_roll-requires g c = (
  c.self.invariant.1,
  c.self.invariant.0,
  parts_roll g.E.Entry.is_of g.E.Entry.begins g.E.Entry.ends _ _ (ap (λ m. m.0.keeps) c.self.invariant.2) (ap (λ m. m.0.gathers) c.self.invariant.2),
)
