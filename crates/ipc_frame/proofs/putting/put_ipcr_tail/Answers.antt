use Rattle.std.proofs.Common.{length, ap, ◌∙◌}
use Rattle.ipc_frame.specs.Numbers.{words_text, number_text}
use Rattle.ipc_frame.specs.Parts.{pieces_text}
use Rattle.ipc_frame.specs.Window.{page, passed}
use Rattle.ipc_frame.proofs.WindowLemmas.{tail_passed}
use Rattle.ipc_frame.proofs.putting.put_ipcr_tail.Goals as goal

pub returns-clause-shown : goal.returns-clause-shown
returns-clause-shown c =
    let ipcr = c.args.ipcr.now in
    let p0 = page c.args.window.now c.args.out.now in
    let p1 = page c.put_words.new.window c.put_words.new.out in
    let p2 = page c.put_u8.new.self c.put_u8.new.out in
    let words = c.put_words.ensures.shown ∙ ap (λ ws. passed (words_text ws) p0) c.words.ensures in
    let count = c.put_u8.ensures.shown ∙ ap (λ ps. passed (number_text 1 (length ps)) p1) c.pieces-pieces.ensures.pieces in
    let pieces = c.put_pieces.ensures.shown ∙ ap (λ ps. passed (pieces_text ps) p2) c.pieces-pieces.ensures.pieces in
    let p3 = page c.put_pieces.new.window c.put_pieces.new.out in
    tail_passed (words_text ipcr.words) (number_text 1 (length ipcr.pieces)) (pieces_text ipcr.pieces) p0 p1 p2 p3 words count pieces
