use Rattle.std.proofs.Common.{length}
use Rattle.ipc_frame.specs.Numbers.{number_text}
use Rattle.ipc_frame.specs.Window.{page}
use Rattle.ipc_frame.proofs.WindowLemmas.{tail_passed}
use Rattle.ipc_frame.proofs.putting.put_piece.Goals as goal

pub returns-clause-shown : goal.returns-clause-shown
returns-clause-shown c =
    let bytes = c.args.bytes.now in
    let p0 = page c.args.window.now c.args.out.now in
    let p1 = page c.put_u64.new.self c.put_u64.new.out in
    let p2 = page c.put_u32.new.self c.put_u32.new.out in
    let p3 = page c.put.new.self c.put.new.out in
    tail_passed (number_text 8 c.args.pointer) (number_text 4 (length bytes)) bytes p0 p1 p2 p3
    c.put_u64.ensures.shown c.put_u32.ensures.shown c.put.ensures.shown
