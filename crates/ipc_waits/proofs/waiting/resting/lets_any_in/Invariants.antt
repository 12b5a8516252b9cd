use Rattle.std.proofs.Common.{◌≡◌, false}
use Rattle.std.specs.List.{AllWithin}
use Rattle.ipc_waits.specs.Resting.{lets_wait_in}
use Rattle.ipc_waits.proofs.waiting.resting.lets_any_in.Given as goal

-- none of those so far is let in
abbrev pub invariant-loop-sender : goal.invariant-loop-sender
invariant-loop-sender l = AllWithin (λ w. lets_wait_in l.slots.past l.from l.thread w ≡ false) l.senders 0 l.sender-index
