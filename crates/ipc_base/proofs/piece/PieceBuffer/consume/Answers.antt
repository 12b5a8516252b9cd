use Rattle.ipc_base.proofs.Pieces.{piece_shorter}
use Rattle.ipc_base.proofs.piece.PieceBuffer.consume.Goals as goal

pub returns : goal.returns
returns c =
    let inside = c.self.inside in
    piece_shorter inside.bytes inside.start inside.end c.args.count c.args.self.now c.self.view_is c.requires.within
