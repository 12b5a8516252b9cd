use Rattle.std.proofs.Common.{◌≡◌, ◌-◌, ◌≤◌, length, drop, ◌++◌}
use Rattle.std.specs.List.{flat_map}
use Rattle.ipc_items.specs.Pieces.{pieces_of_all}
use Rattle.ipc_items.proofs.scattering.ScatteredIterator.next.Given as goal

abbrev pub invariant-loop-self : goal.invariant-loop-self
invariant-loop-self l = record {
  left : l.self-inside.pieces ++ flat_map (λ pieces. pieces) (drop l.self-inside.begun (pieces_of_all l.self-inside.buffers.now l.self-inside.strings.now)) ≡ l.fn.self;
  within : l.self-inside.begun ≤ length l.self-inside.strings.now;
}

abbrev pub decreases-loop-self : goal.decreases-loop-self
decreases-loop-self l = length l.self-inside.strings.now - l.self-inside.begun
