use Rattle.std.proofs.Common.{◌≡◌, ◌≤◌, ◌-◌, ◌++◌, ℕ, List, length, drop}
use Rattle.ipc_frame.specs.declared.kind.Side.TheVariants.{Server}
use Rattle.ipc_frame.specs.declared.frame.Frame.{Frame}
use Rattle.ipc_frame.specs.Reading.{Whole, reading}
use Rattle.ipc_connection.specs.Holding.{AreGone}
use Rattle.ipc_connection.proofs.call_decoder.fill.Given as goal

-- what is held and what is left of the piece are all of it; a frame that is whole ends with the
-- bytes held; nothing is counted off where memory is ample
abbrev pub invariant-loop-fault : goal.invariant-loop-fault
invariant-loop-fault g l = record {
  within : l.used ≤ length l.piece;
  joined : (gone : List ℕ) → AreGone l.fn.held gone → (back : List ℕ) × AreGone l.held back × ((l.held.bytes ++ back) ++ drop l.used l.piece ≡ (l.fn.held.bytes ++ gone) ++ l.piece);
  exact : (back : List ℕ) (f : Frame) (n : ℕ) → AreGone l.held back → reading Server (l.held.bytes ++ back) ≡ Whole f n → n ≡ length (l.held.bytes ++ back);
  ample : g.M.Memory.is_ample → l.fn.held.lost ≡ 0 → l.held.lost ≡ 0;
}

abbrev pub decreases-loop-fault : goal.decreases-loop-fault
decreases-loop-fault g l = length l.piece - l.used
