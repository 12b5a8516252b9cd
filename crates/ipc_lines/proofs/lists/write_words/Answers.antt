use Rattle.std.proofs.Common.{refl, get_or, arith}
use Rattle.std.specs.String.{string_bytes}
use Rattle.ipc_lines.specs.Texts.{hex_text}
use Rattle.ipc_lines.proofs.Joins.{join_turn}
use Rattle.ipc_lines.proofs.lists.write_words.Goals as goal

pub loop-place-preserved : goal.loop-place-preserved
loop-place-preserved c =
    join_turn 44 hex_text c.args.words.now c.loop-place.place 0 (get_or c.args.words.now c.loop-place.place 0)
    (string_bytes c.args.out.now) (string_bytes c.loop-place.out) (string_bytes c.separate.new.out) (string_bytes c.write_hex.new.out)
    (omega arith) refl c.loop-place.invariant c.in_ok-separate.ensures c.in_ok-write_hex.ensures
