use Rattle.std.proofs.Common.{◌++◌, ◌∷◌, [], ◌∙◌, drop, ap, append_assoc}
use Rattle.ipc_shell.specs.Answers.{answer_text}
use Rattle.ipc_shell.specs.Printing.{ended, trace_text}
use Rattle.ipc_shell.proofs.run.answering.answer.Goals as goal

pub returns : goal.returns
returns c =
    let new = c.obey-answer.new.self in
    let told = answer_text c.obey-answer.result in
    let lines = trace_text c.entries_from.result.now in
    let entries = c.in_ok-write_entries.ensures ∙ ap (λ bytes. bytes ++ lines) c.in_ok-text.ensures.bytes in
    let all = c.in_ok-push_str.ensures.bytes ∙ ap (λ bytes. bytes ++ 10 ∷ []) (c.in_ok-write_answer.ensures ∙ ap (λ front. front ++ told) entries) in
    let written = c.entries_from.ensures ∙ ap (λ before. drop before new.history) c.total-before.ensures in
    record {
      in_words = c.command_is_readable.ensures;
      answer = c.obey-answer.result;
      obeys = c.obey-answer.ensures.obeys;
      text_is = all ∙ (append_assoc lines told (10 ∷ []) ∙ ap (λ es. trace_text es ++ ended told) written);
    }
