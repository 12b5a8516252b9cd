use Rattle.std.proofs.Common.{◌≡◌, ◌==◌, false}
use Rattle.std.specs.List.{AllWithin}
use Rattle.ipc_waits.proofs.waiting.passing.wait_of.Given as goal

-- none of those so far is of the call
abbrev pub invariant-loop-wait : goal.invariant-loop-wait
invariant-loop-wait l = AllWithin (λ w. (w.number == l.number) ≡ false) l.waits 0 l.wait-index
