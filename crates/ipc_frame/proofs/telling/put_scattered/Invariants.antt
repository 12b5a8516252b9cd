use Rattle.std.proofs.Common.{◌≡◌, ◌≤◌, ◌<◌, ◌^◌, length}
use Rattle.ipc_frame.specs.Parts.{pieces_text}
use Rattle.ipc_frame.specs.Replies.{pieces_told}
use Rattle.ipc_frame.specs.Window.{page, passed}
use Rattle.ipc_frame.proofs.telling.put_scattered.Given as goal

-- what is left to pass completes all
abbrev pub invariant-loop-piece : goal.invariant-loop-piece
invariant-loop-piece l = record {
  left : passed (pieces_text l.piece-iterator) (page l.window l.out) ≡ passed (pieces_text (pieces_told l.outcome)) (page l.initial.window l.initial.out);
  small : length (pieces_text l.piece-iterator) < 2 ^ 32;
  within : l.window.filled ≤ length l.out;
}
