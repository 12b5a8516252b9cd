use Rattle.std.proofs.Common.{length, ap, ◌∙◌}
use Rattle.ipc_frame.specs.declared.version.WireVersion.TheVariants.{One}
use Rattle.ipc_history.specs.Outcomes.{OutcomeParts}
use Rattle.ipc_frame.specs.Numbers.{words_text, number_text}
use Rattle.ipc_frame.specs.Parts.{pieces_text}
use Rattle.ipc_frame.specs.Replies.{reply_of}
use Rattle.ipc_frame.specs.Window.{page, passed}
use Rattle.ipc_frame.proofs.WindowLemmas.{tail_passed}
use Rattle.ipc_frame.proofs.telling.put_reply_tail.Goals as goal

pub returns-clause-shown : goal.returns-clause-shown
returns-clause-shown c =
    let parts = reply_of One c.args.outcome.now in
    let p0 = page c.args.window.now c.args.out.now in
    let p1 = page c.put_words.new.window c.put_words.new.out in
    let p2 = page c.put_u8.new.self c.put_u8.new.out in
    let p3 = page c.put_strings.new.window c.put_strings.new.out in
    let told = c.deref.ensures.value ∙ ap (λ (o : OutcomeParts). o.words) c.outcome.view_is in
    let words = c.put_words.ensures.shown ∙ ap (λ ws. passed (words_text ws) p0) told in
    let count = c.put_u8.ensures.shown ∙ ap (λ n. passed (number_text 1 n) p1) c.measure_of-measure.ensures.pieces in
    tail_passed (words_text parts.words) (number_text 1 (length parts.pieces)) (pieces_text parts.pieces) p0 p1 p2 p3
    words count c.put_strings.ensures.shown
