use Rattle.std.proofs.Common.{◌∙◌, None, arith, ◌<◌, length}
use Rattle.std.proofs.Math.ListN.{length-set}
use Rattle.ipc_threads.specs.Slots.{slot_of}
use Rattle.l4sh_state.proofs.ThreadLemmas.{set_more}
use Rattle.l4sh_state.proofs.threads.threads_of.Goals as goal

pub loop-place-preserved : goal.loop-place-preserved
loop-place-preserved c =
    let size = c.loop-place.invariant.0 in
    let within : c.loop-place.place < length c.loop-place.threads = omega (arith, size) in (
      length-set c.loop-place.threads c.loop-place.place c.live_of.result ∙ size,
      set_more c.loop-place.threads c.loop-place.place c.live_of.result None (λ k. (slot_of c.args.slots.now.past k).live) within c.loop-place.invariant.1
          c.live_of.ensures,
    )
