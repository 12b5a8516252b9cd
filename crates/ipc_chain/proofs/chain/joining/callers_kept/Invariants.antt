use Rattle.std.proofs.Common.{◌≡◌, filter_map, take}
use Rattle.ipc_chain.specs.Chains.{caller_kept}
use Rattle.ipc_chain.proofs.chain.joining.callers_kept.Given as goal

abbrev pub invariant-loop-place : goal.invariant-loop-place
invariant-loop-place l = l.callers.items ≡ filter_map (caller_kept l.base.over) (take l.place l.kept)
