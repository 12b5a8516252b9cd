use Rattle.std.proofs.Common.{◌≡◌, ◌<◌, ◌^◌, nat_lt, true, length, refl, ap, arith}
use Rattle.std.proofs.lemmas.Bool.{lt-ltb}
use Rattle.ipc_frame.specs.Parts.{pieces_text}
use Rattle.ipc_frame.proofs.WindowLemmas.{size_step}
use Rattle.ipc_frame.proofs.PieceLemmas.{one_more}
use Rattle.ipc_frame.proofs.ipcr.pieces_within.Goals as goal

pub returns-then-left-size-clause-value : goal.returns-then-left-size-clause-value
returns-then-left-size-clause-value c =
    let piece = c.piece-item.result in
    let step = size_step c.args.pieces.now c.loop-piece.piece-index piece c.loop-piece-test.true in
    let past : nat_lt c.args.most (length (pieces_text c.args.pieces.now)) ≡ true = lt-ltb c.args.most (length (pieces_text c.args.pieces.now)) (omega (arith, step, c.loop-piece.invariant.left, ap (λ p. length p.bytes) c.piece-item.is, ap length c.bytes.ensures.bytes)) in
    rw past refl

pub loop-piece-preserved : goal.loop-piece-preserved
loop-piece-preserved c =
    let piece = c.piece-item.result in
    let step = size_step c.args.pieces.now c.loop-piece.piece-index piece c.loop-piece-test.true in
    let size = ap length c.bytes.ensures.bytes in
    let fits = c.bytes.ensures.fits in
    let inv = c.loop-piece.invariant in
    let small : length piece.bytes < 256 ^ 4 = omega (arith, inv.within, c.requires, size) in
    record {
      left = omega (arith, step, inv.left, ap (λ p. length p.bytes) c.piece-item.is, size);
      within = omega (arith, inv.within);
      each = one_more c.args.pieces.now c.loop-piece.piece-index piece piece c.loop-piece-test.true c.piece-item.is inv.each (fits.0, small, fits.1);
    }
