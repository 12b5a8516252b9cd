use prog.Atomic.{either}
use Rattle.std.proofs.Common.{◌∙◌, eqb, sym}
use Rattle.ipc_base.proofs.LogKeeping.{adds_nobodys}
use Rattle.ipc_base.proofs.shared_log.log.Log.add.Goals as goal

pub compare_exchange_with-requires : goal.compare_exchange_with-requires
compare_exchange_with-requires g c = (
  c.keeper.invariant.0 ∙ sym c.self.invariant.0,
  c.self.invariant.1,
  adds_nobodys g.E.Entry.is_of g.E.Entry.begins g.E.Entry.ends _ _ 0 0 0 (λ n. either (eqb n 0) 0 n) _ _ _ c.keeper.invariant.1 c.requires.nobodys c.requires.lives,
)
