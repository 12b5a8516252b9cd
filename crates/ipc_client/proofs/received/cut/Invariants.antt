-- The strings so far, and those of the items and bytes that are left.
use Rattle.std.proofs.Common.{◌≡◌, ◌++◌, length}
use Rattle.ipc_items.specs.Strings.{strings_of}
use Rattle.ipc_client.specs.Receiving.{item_strings}
use Rattle.ipc_client.proofs.received.cut.Given as goal

abbrev pub invariant-strings : goal.invariant-strings
invariant-strings l = strings_of l.strings.items ++ item_strings l.items l.bytes ≡ item_strings l.initial.items l.initial.bytes

abbrev pub decreases-strings : goal.decreases-strings
decreases-strings l = length l.items
