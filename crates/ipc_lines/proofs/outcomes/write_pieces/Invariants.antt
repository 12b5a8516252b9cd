use Rattle.std.proofs.Common.{◌≡◌, ◌++◌, map, take}
use Rattle.std.specs.List.{join_with_byte}
use Rattle.std.specs.String.{string_bytes}
use Rattle.ipc_items.specs.Placed.{placed}
use Rattle.ipc_lines.specs.Texts.{piece_text}
use Rattle.ipc_lines.proofs.outcomes.write_pieces.Given as goal

abbrev pub invariant-loop-place : goal.invariant-loop-place
invariant-loop-place l = string_bytes l.out ≡ string_bytes l.initial.out ++ join_with_byte 44 (map piece_text (take l.place (map placed l.pieces)))
