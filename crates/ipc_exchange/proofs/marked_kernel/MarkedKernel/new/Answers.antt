use Rattle.std.proofs.Common.{◌≡◌, ◌∙◌, ap, min, arith}
use Rattle.ipc_history.specs.Holding.{marked_to}
use Rattle.ipc_words.specs.Limits.{max_calls, max_entries}
use Rattle.ipc_core.specs.KernelParts.{KernelParts}
use Rattle.ipc_exchange.specs.Serving.{every_entry, first_kernel}
use Rattle.ipc_exchange.proofs.DueLemmas.{new_due}
use Rattle.ipc_exchange.proofs.marked_kernel.MarkedKernel.new.Goals as goal

pub invariant_of-result : goal.invariant_of-result
invariant_of-result c =
    let marked : c.mark.new.self ≡ first_kernel (min c.args.limits.entries max_entries) (min c.args.limits.calls max_calls) = c.mark.ensures ∙ ap (λ (k : KernelParts). record k { held = marked_to every_entry k.held }) c.in-Ok.ensures.ok in
    new_due _ _ c.mark.new.self c.in_ok-due.due.items marked c.history.ensures.sound (omega (arith, c.in_ok-due.ensures.len, c.in_ok-due.due.ok))
