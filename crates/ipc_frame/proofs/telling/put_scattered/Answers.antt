use Rattle.std.proofs.Common.{length, sym, ap, ◌∙◌, arith}
use Rattle.ipc_items.specs.Placed.{placed}
use Rattle.ipc_frame.specs.Parts.{pieces_text}
use Rattle.ipc_frame.specs.Window.{page, passed}
use Rattle.ipc_frame.proofs.WindowLemmas.{piece_size, first_passed, passed_nothing}
use Rattle.ipc_frame.proofs.telling.put_scattered.Goals as goal

pub loop-piece-preserved : goal.loop-piece-preserved
loop-piece-preserved c =
    let piece = placed c.in-Some.piece in
    let first = c.in-Some.ensures.steps in
    let before = page c.loop-piece.window c.loop-piece.out in
    let after = page c.put_piece.new.window c.put_piece.new.out in
    let passes = first_passed c.loop-piece.piece-iterator c.next.new.self piece before after first c.put_piece.ensures.shown in
    record {
      left = passes ∙ c.loop-piece.invariant.left;
      small = omega (arith, c.loop-piece.invariant.small, ap (λ ps. length (pieces_text ps)) first, piece_size piece c.next.new.self);
      within = c.put_piece.ensures.within;
    }

pub returns-clause-shown : goal.returns-clause-shown
returns-clause-shown c =
    let window = page c.loop-piece.window c.loop-piece.out in
    sym (ap (λ ps. passed (pieces_text ps) window) c.in-None.ensures.steps.0 ∙ passed_nothing window) ∙ c.loop-piece.invariant.left
