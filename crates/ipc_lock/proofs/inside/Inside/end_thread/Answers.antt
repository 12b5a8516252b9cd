use Rattle.std.proofs.Common.{None}
use Rattle.ipc_lock.proofs.Telling.{ends_told}
use Rattle.ipc_lock.proofs.inside.Inside.end_thread.Goals as goal

pub returns-clause-ends : goal.returns-clause-ends
returns-clause-ends g c = ends_told _ _ _ _ _ None _ _ _ _ _ _ _ c.act_and_tell-answered.ensures.acts
