use Rattle.std.proofs.Common.{refl, arith}
use Rattle.std.specs.String.{string_bytes}
use Rattle.ipc_lines.specs.Texts.{substring_text}
use Rattle.ipc_lines.proofs.Joins.{join_turn}
use Rattle.ipc_lines.proofs.lists.write_buffer.Goals as goal

pub loop-place-preserved : goal.loop-place-preserved
loop-place-preserved c =
    join_turn 43 substring_text c.args.parts.now c.loop-place.place _ _
    (string_bytes c.args.out.now) (string_bytes c.loop-place.out) (string_bytes c.separate.new.out) (string_bytes c.write_substring.new.out)
    (omega arith) refl c.loop-place.invariant c.in_ok-separate.ensures c.in_ok-write_substring.ensures
