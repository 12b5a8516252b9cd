use Rattle.std.proofs.Common.{sym, arith}
use Rattle.std.specs.String.{string_bytes}
use Rattle.std.proofs.lemmas.Option.{gets, get_or_from_slice_get}
use Rattle.std.proofs.lemmas.Grind.{common_steps}
use Rattle.ipc_lines.specs.Texts.{bytes_text}
use Rattle.ipc_lines.proofs.Joins.{join_turn}
use Rattle.ipc_lines.proofs.lists.write_strings.Goals as goal

pub loop-place-preserved : goal.loop-place-preserved
loop-place-preserved c =
    join_turn 44 bytes_text c.args.strings.now c.loop-place.place _ c.in-Some.bytes.now
    (string_bytes c.args.out.now) (string_bytes c.loop-place.out) (string_bytes c.separate.new.out) (string_bytes c.write_bytes.new.out)
    (omega arith) (get_or_from_slice_get c.args.strings.now c.loop-place.place c.in-Some.bytes.now c.in-Some.bytes.now (sym c.in-Some.ensures))
    c.loop-place.invariant c.in_ok-separate.ensures c.in_ok-write_bytes.ensures

pub returns-in_default : goal.returns-in_default
returns-in_default c = grind (arith, common_steps, gets)
