use Rattle.std.proofs.Common.{arith}
use Rattle.ipc_core.proofs.AmpleLemmas.{fits_none}
use Rattle.ipc_core.proofs.BookLemmas.{books_none}
use Rattle.ipc_core.proofs.KernelLemmas.{kernel_none}
use Rattle.ipc_core.proofs.kernel.Kernel.new_in.Goals as goal

pub invariant_of-result : goal.invariant_of-result
invariant_of-result g c = record {
  kernel = kernel_none _ _ _ c.in-Ok.ensures.entries (let least = c.min.ensures in omega arith) (let least = c.min-2.ensures in omega arith);
  books = books_none _ _ _ c.in-Ok.ensures.entries c.in-Ok.ensures.taken c.in-Ok.ensures.since;
  fits = (let least = c.min.ensures in fits_none _ c.in-Ok.course c.in-Ok.ensures.entries c.in-Ok.ensures.held (omega arith));
}
