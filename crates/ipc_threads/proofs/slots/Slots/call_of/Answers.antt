use Rattle.std.proofs.Common.{refl, ◌∙◌}
use Rattle.ipc_threads.specs.Slots.{live_in}
use Rattle.ipc_threads.proofs.Lookups.{call_found}
use Rattle.ipc_threads.proofs.slots.Slots.call_of.Goals as goal

pub returns : goal.returns
returns c = c.call_of.ensures ∙ call_found c.args.self.now.past c.kept.result.now c.kept.ensures.legal c.kept.ensures.stands c.args.thread (live_in c.kept.result.now.table c.args.thread) refl
