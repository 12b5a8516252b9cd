use Rattle.std.proofs.Common.{◌∙◌, None, arith, ◌<◌, length}
use Rattle.std.proofs.Math.ListN.{length-set}
use Rattle.l4sh_state.proofs.ThreadLemmas.{set_more}
use Rattle.l4sh_state.specs.WaitsFor.{waits_at}
use Rattle.l4sh_state.proofs.waits.waits_of.Goals as goal

pub loop-place-preserved : goal.loop-place-preserved
loop-place-preserved c =
    let size = c.loop-place.invariant.0 in
    let within : c.loop-place.place < length c.loop-place.waits = omega (arith, size) in (
      length-set c.loop-place.waits c.loop-place.place c.wait_at.result ∙ size,
      set_more c.loop-place.waits c.loop-place.place c.wait_at.result None (waits_at c.args.threads.now) within c.loop-place.invariant.1 c.wait_at.ensures,
    )
