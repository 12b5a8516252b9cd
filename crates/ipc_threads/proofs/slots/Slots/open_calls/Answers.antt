use Rattle.ipc_threads.proofs.SlotSums.{opens_told}
use Rattle.ipc_threads.proofs.slots.Slots.open_calls.Goals as goal

pub returns : goal.returns
returns c = opens_told c.args.self.now.past c.kept-kept.result.now c.kept-kept.ensures.legal c.kept-kept.ensures.stands c.loop-place.place c.loop-place.total c.loop-place-test.false c.loop-place.auto.place-end c.loop-place.invariant.0
