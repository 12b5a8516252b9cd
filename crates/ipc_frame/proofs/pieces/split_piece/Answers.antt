use Rattle.std.proofs.Common.{◌≤◌, length, arith}
use Rattle.ipc_frame.proofs.PieceLemmas.{first_piece_is}
use Rattle.ipc_frame.proofs.pieces.split_piece.Goals as goal

pub returns-clause-some : goal.returns-clause-some
returns-clause-some c =
    let pointer = c.split_u64-pointer.ensures in
    let size = c.split_u32-size.ensures in
    let left = pointer.left in
    let some = size.left in
    let long : 12 ≤ length c.args.bytes.now = omega (arith, left, some) in
    first_piece_is c.args.bytes.now _ _ _ _ _ _ pointer.number pointer.behind size.number size.behind long (omega arith) c.split_at.ensures.front c.split_at.ensures.back
