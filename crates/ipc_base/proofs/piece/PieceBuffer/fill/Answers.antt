use Rattle.std.proofs.Common.{◌≡◌, ◌-◌, length, arith}
use Rattle.ipc_base.proofs.Pieces.{piece_costs}
use Rattle.ipc_base.proofs.piece.PieceBuffer.fill.Goals as goal

pub returns-clause-fewer : goal.returns-clause-fewer
returns-clause-fewer g c =
    let n = c.in_ok-self-inside.field-0 in
    let whole : length c.read.new.buf ≡ 8192 = omega (arith, c.read.auto.buf) in
    piece_costs (g.P.PortRead.reads_left c.args.port.now) (g.P.PortRead.reads_left c.read.new.self) n (n - 0) c.read.new.buf c.args.self.now
    c.in_ok-self-inside.ensures.bound.0 whole (omega arith) c.in_ok-self-inside.ensures.fewer
