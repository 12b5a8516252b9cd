use Rattle.std.proofs.Common.{◌∙◌, sym}
use Rattle.ipc_lock.proofs.Above.{gone_other, gone_shut}
use Rattle.ipc_lock.proofs.shared_kernel.SharedKernel.when_empty.Goals as goal

pub returns-then-not-is_in-clause-gone : goal.returns-then-not-is_in-clause-gone
returns-then-not-is_in-clause-gone g c =
    gone_other _ _ _ _ _ _ _ _ _ _ c.deref.ensures c.deref_mut.ensures.value c.loop.invariant.2 c.number-number.ensures c.is_in.ensures.runs c.show.ensures.own
    (sym c.is_in.ensures.own ∙ c.if-not-is_in.true)

pub returns-then-is_shut-clause-gone : goal.returns-then-is_shut-clause-gone
returns-then-is_shut-clause-gone g c =
    gone_shut _ _ _ _ _ _ _ _ _ c.deref-in-loop.ensures c.deref_mut-then-is_shut.ensures.value c.loop.invariant.2 c.is_shut.ensures.runs
    c.show-then-is_shut.ensures.own (sym c.is_shut.ensures.shut ∙ c.if-is_shut.true)
