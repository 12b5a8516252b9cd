use Rattle.std.proofs.Common.{◌≡◌}
use Rattle.ipc_frame.specs.Replies.{pieces_told}
use Rattle.ipc_frame.specs.Lending.{lent_piece}
use Rattle.ipc_frame.proofs.telling.lend_piece.Given as goal

-- what is lent of the pieces that are left is what is lent of all
abbrev pub invariant-loop-piece : goal.invariant-loop-piece
invariant-loop-piece l = lent_piece l.place l.piece-iterator ≡ lent_piece l.initial.place (pieces_told l.outcome)
