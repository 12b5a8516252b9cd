use Rattle.std.proofs.Common.{◌∙◌, sym}
use Rattle.ipc_base.proofs.LogKeeping.{shows}
use Rattle.ipc_base.proofs.shared_log.log.Log.front.Goals as goal

pub split_seat-pass-requires : goal.split_seat-pass-requires
split_seat-pass-requires g c = (
  c.keeper.invariant.0 ∙ sym c.self.invariant.0,
  c.self.invariant.1,
  shows g.E.Entry.is_of g.E.Entry.begins g.E.Entry.ends _ _,
)
