use Rattle.std.proofs.Common.{◌≡◌, false}
use Rattle.std.specs.List.{AllWithin}
use Rattle.ipc_waits.specs.Queues.{is_same}
use Rattle.ipc_waits.proofs.queue.place_of.Given as goal

-- none of those so far is the same
abbrev pub invariant-loop-index : goal.invariant-loop-index
invariant-loop-index l = AllWithin (λ w. is_same l.wait w ≡ false) l.waits 0 l.index
