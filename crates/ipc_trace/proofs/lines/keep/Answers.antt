use Rattle.std.proofs.Common.{◌+◌, ◌-◌, ◌≤◌, length, arith}
use Rattle.std.proofs.lemmas.Grind.{common_steps}
use Rattle.ipc_words.specs.Limits.{max_line_bytes}
use Rattle.ipc_trace.proofs.Pieces.{keeps_front, keeps_all, where_ok}
use Rattle.ipc_trace.proofs.lines.keep.Goals as goal

pub returns-then-text-room : goal.returns-then-text-room
returns-then-text-room c =
    where_ok c.extend_from_slice.result
    (keeps_front c.args.line.now.items c.args.text.now c.extend_from_slice.new.self.items (max_line_bytes + 1 - c.len.result) (omega (arith, c.len.ensures, c.args.line.now.ok.0)) c.requires.short)
    (grind (arith, common_steps))

pub returns-else-text-room : goal.returns-else-text-room
returns-else-text-room c =
    let fits : length c.args.line.now.items + length c.args.text.now ≤ max_line_bytes + 1 = omega (arith, c.len.ensures, c.args.line.now.ok.0, c.if-text-room.false, c.requires.short) in
    where_ok c.extend_from_slice-else-text-room.result
    (keeps_all c.args.line.now.items c.args.text.now c.extend_from_slice-else-text-room.new.self.items fits)
    (grind (arith, common_steps))
