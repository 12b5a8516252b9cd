use Rattle.std.proofs.Common.{◌≡◌, subst, sym}
use Rattle.ipc_history.specs.Holding.{held_of}
use Rattle.ipc_compact.specs.Compact.{kept_of}
use Rattle.ipc_core.specs.KernelParts.{history_of}
use Rattle.ipc_core.proofs.kernel.Kernel.base.Goals as goal

pub base-requires-clause-others : goal.base-requires-clause-others
base-requires-clause-others c = c.self.invariant.books.others

pub base-requires-clause-compact : goal.base-requires-clause-compact
base-requires-clause-compact c = subst (λ k. held_of (history_of k) ≡ kept_of k.history k.taken) (sym c.self.view_is) c.requires
