use Rattle.std.proofs.Common.{arith, map, get_or, []}
use Rattle.std.proofs.lemmas.List.{get_or-map, length-map}
use Rattle.std.specs.String.{string_bytes}
use Rattle.ipc_items.specs.declared.placing.Piece.{Piece}
use Rattle.ipc_items.specs.Placed.{placed}
use Rattle.ipc_lines.specs.Texts.{piece_text}
use Rattle.ipc_lines.proofs.Joins.{join_turn}
use Rattle.ipc_lines.proofs.outcomes.write_pieces.Goals as goal

pub loop-place-preserved : goal.loop-place-preserved
loop-place-preserved c =
    let none : Piece = record { pointer = 0; bytes = record { ref_ptr = (0, 0); now = [] } } in
    join_turn 44 piece_text (map placed c.args.pieces.now) c.loop-place.place (placed none) (placed (get_or c.args.pieces.now c.loop-place.place none))
    (string_bytes c.args.out.now) (string_bytes c.loop-place.out) (string_bytes c.separate.new.out) (string_bytes c.write_piece.new.out)
    (omega (arith, length-map c.args.pieces.now placed)) (get_or-map placed c.args.pieces.now c.loop-place.place none (placed none) (omega arith))
    c.loop-place.invariant c.in_ok-separate.ensures c.in_ok-write_piece.ensures
