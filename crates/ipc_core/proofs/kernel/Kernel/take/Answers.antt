use Rattle.std.proofs.Common.{ap, ◌∙◌}
use Rattle.ipc_core.specs.Obeying.{rested}
use Rattle.ipc_core.proofs.Obeyed.{take_obeys}
use Rattle.ipc_core.proofs.Resting.{begins_rested, rests}
use Rattle.ipc_core.proofs.kernel.Kernel.take.Goals as goal

pub invariant_of-self : goal.invariant_of-self
invariant_of-self c = rests _ _ _ c.self.inside.course c.begin.new.self c.self.invariant c.begin.ensures.entries c.begin.ensures.room c.begin.ensures.taken c.begin.ensures.since c.begin.ensures.held

pub returns-clause-taken : goal.returns-clause-taken
returns-clause-taken c = begins_rested _ c.take_outcome-outcome.new.self c.begin.new.self c.self.view_is c.begin.ensures.entries c.begin.ensures.held c.begin.ensures.taken c.begin.ensures.since c.begin.ensures.room ∙ ap rested c.take_outcome-outcome.ensures.taken

pub returns-clause-obeys : goal.returns-clause-obeys
returns-clause-obeys c = take_obeys _ _ c.args.thread c.take_outcome-outcome.result (record { outcome_is = c.take_outcome-outcome.ensures.outcome; taken = begins_rested _ c.take_outcome-outcome.new.self c.begin.new.self c.self.view_is c.begin.ensures.entries c.begin.ensures.held c.begin.ensures.taken c.begin.ensures.since c.begin.ensures.room ∙ ap rested c.take_outcome-outcome.ensures.taken })
