use Rattle.ipc_lock.proofs.Leaving.{ends_all}
use Rattle.ipc_lock.proofs.shared_kernel.SharedKernel.end_work.Goals as goal

pub returns : goal.returns
returns g c = record {
  ends = ends_all _ _ _ _ _ _ c.deref_mut.ensures.value c.when_left-inside.ensures c.call_roll.ensures.runs c.call_roll.ensures.now c.call_roll.ensures.began
      c.call_roll.ensures.ended c.call_roll.ensures.once;
}
