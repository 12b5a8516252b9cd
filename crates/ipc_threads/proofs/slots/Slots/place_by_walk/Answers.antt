use Rattle.ipc_words.specs.ThreadId.{number_of}
use Rattle.ipc_history.specs.Calls.{caller_of}
use Rattle.ipc_threads.proofs.Holders.{held_somewhere, none_held}
use Rattle.ipc_threads.proofs.slots.Slots.place_by_walk.Goals as goal

pub unreachable-requires : goal.unreachable-requires
unreachable-requires c = none_held c.args.self.now.past c.kept-kept.result.now c.kept-kept.ensures.stands c.args.number c.loop-place.place c.loop-place-test.false c.loop-place.invariant (number_of (caller_of c.args.self.now.past c.args.number)) (held_somewhere c.args.self.now.past c.kept-kept.ensures.legal c.kept-kept.result.now.table c.kept-kept.ensures.stands.table c.args.number c.requires)
