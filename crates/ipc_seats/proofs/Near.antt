-- What may be pledged, and what a call may need, fits between near the limit and the limit.
use Rattle.std.proofs.Common.{◌/◌, ◌≤◌, ◌==◌, if◌then◌else◌, Bool, true, false, arith}
use Rattle.ipc_words.specs.Limits.{block_bytes, max_string_bytes}
use Rattle.ipc_words.specs.ThreadId.{nilthread}
use Rattle.ipc_items.specs.Strings.{size_of}
use Rattle.ipc_history.specs.Blocks.{blocks}
use Rattle.ipc_history.specs.CallParts.{CallParts}
use Rattle.ipc_laws.specs.Counting.{blocks_of}
use Rattle.ipc_laws.proofs.LiveThreads.{live_bound}
use Rattle.ipc_core.proofs.ReservedLemmas.{pledged_most}
use Rattle.ipc_seats.specs.Upkeeping.{NearCovers}

few_blocks : (call : CallParts) → size_of call.strings ≤ max_string_bytes → blocks_of call ≤ max_string_bytes / block_bytes
few_blocks call within = go (call.to == nilthread)
  where
    go : (none : Bool) → (if none then 0 else blocks (size_of call.strings)) ≤ max_string_bytes / block_bytes
    go true = omega arith
    go false = omega arith

pub near_covers : NearCovers
near_covers H call legal within =
    omega (arith, pledged_most H legal, live_bound H legal, few_blocks call within)
