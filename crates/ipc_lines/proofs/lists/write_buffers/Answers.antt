use Rattle.std.proofs.Common.{sym, arith}
use Rattle.std.specs.String.{string_bytes}
use Rattle.std.proofs.lemmas.Option.{gets, get_or_from_slice_get}
use Rattle.std.proofs.lemmas.Grind.{common_steps}
use Rattle.ipc_lines.specs.Texts.{buffer_text}
use Rattle.ipc_lines.proofs.Joins.{join_turn}
use Rattle.ipc_lines.proofs.lists.write_buffers.Goals as goal

pub loop-place-preserved : goal.loop-place-preserved
loop-place-preserved c =
    join_turn 44 buffer_text c.in-Some.buffers.now c.loop-place.place _ c.in-Some-get.parts.now
    (string_bytes c.args.out.now) (string_bytes c.loop-place.out) (string_bytes c.separate.new.out) (string_bytes c.write_buffer.new.out)
    (omega arith) (get_or_from_slice_get c.in-Some.buffers.now c.loop-place.place c.in-Some-get.parts.now c.in-Some-get.parts.now (sym c.in-Some-get.ensures))
    c.loop-place.invariant c.in_ok-separate.ensures c.in_ok-write_buffer.ensures

pub returns-in_default-get : goal.returns-in_default-get
returns-in_default-get c = grind (arith, common_steps, gets)
