use Rattle.std.proofs.Common.{min}
use Rattle.ipc_words.specs.Limits.{max_entries, max_calls}
use Rattle.ipc_core.specs.Obeying.{Runs, empty_kernel}
use Rattle.ipc_core.proofs.kernel.Kernel.run_in.Given as goal

abbrev pub invariant-loop-command : goal.invariant-loop-command
invariant-loop-command g l = Runs (empty_kernel (min l.fn.limits.entries max_entries) (min l.fn.limits.calls max_calls)) l.yielded l.answers.items l.kernel
