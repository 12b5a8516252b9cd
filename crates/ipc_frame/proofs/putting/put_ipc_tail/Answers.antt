use Rattle.std.proofs.Common.{ap, ◌∙◌}
use Rattle.ipc_frame.specs.Numbers.{words_text}
use Rattle.ipc_frame.specs.Window.{page, passed}
use Rattle.ipc_frame.proofs.WindowLemmas.{tail_passed}
use Rattle.ipc_frame.proofs.putting.put_ipc_tail.Goals as goal

pub returns-clause-shown : goal.returns-clause-shown
returns-clause-shown c =
    let ipc = c.args.ipc.now in
    let p0 = page c.args.window.now c.args.out.now in
    let p1 = page c.put_words.new.window c.put_words.new.out in
    let p2 = page c.put_words-2.new.window c.put_words-2.new.out in
    let words = c.put_words.ensures.shown ∙ ap (λ ws. passed (words_text ws) p0) c.words.ensures in
    let buffer_words = c.put_words-2.ensures.shown ∙ ap (λ ws. passed (words_text ws) p1) c.buffer_words.ensures.buffer_words in
    let payload = c.put.ensures.shown ∙ ap (λ bytes. passed bytes p2) c.payload.ensures.payload in
    let p3 = page c.put.new.self c.put.new.out in
    tail_passed (words_text ipc.words) (words_text ipc.buffer_words) ipc.payload p0 p1 p2 p3 words buffer_words payload
