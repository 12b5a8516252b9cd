use Rattle.std.proofs.Common.{◌≡◌, ◌++◌, ap, ◌∙◌, rules, tests}
use Rattle.std.specs.Prelude.{◌==◌}
use Rattle.std.proofs.lemmas.Result.{IfOk-at_ok}
use Rattle.ipc_lines.specs.Reading.{parts_at, texts_of}
use Rattle.ipc_lines.proofs.Extending.{extended_by_parts}
use Rattle.ipc_lines.proofs.fields.parts.Goals as goal

pub returns : goal.returns
returns c =
    IfOk-at_ok (λ _. texts_of c.extend.new.self.items ≡ parts_at c.args.separator c.args.text.now) c.in_ok-extend.was
    (extended_by_parts (λ byte. byte == c.args.separator) c.args.text.now c.extend.result c.extend.ensures.ran c.split.ensures.rest c.split.ensures.done c.split.ensures.closure (λ x r q k. search (rules, tests))
    (λ xs e h. ap texts_of h.0 ∙ ap (λ ys. texts_of (ys ++ xs)) c.in_ok-list.ensures.items ∙ e))
