use Rattle.std.proofs.Common.{◌∙◌, ap}
use Rattle.ipc_history.specs.Holding.{marked_to}
use Rattle.ipc_core.specs.CourseParts.{CourseParts}
use Rattle.ipc_core.specs.KernelParts.{KernelParts}
use Rattle.ipc_core.proofs.CompactLemmas.{marked_whole}
use Rattle.ipc_core.proofs.kernel.Kernel.mark.Goals as goal

pub invariant_of-self : goal.invariant_of-self
invariant_of-self c = marked_whole _ _ _ c.self.inside.course c.mark.new.self c.args.upto c.mark.ensures c.self.invariant

pub returns : goal.returns
returns c =
    ap (λ (v : CourseParts). record { entries_limit = c.self.inside.entries_limit; calls_limit = c.self.inside.calls_limit; moment = c.self.inside.moment; history = v.entries; held = v.held; taken = v.taken; since = v.since; room = v.room }) c.mark.ensures
    ∙ ap (λ (k : KernelParts). record k { held = marked_to c.args.upto k.held }) c.self.view_is
