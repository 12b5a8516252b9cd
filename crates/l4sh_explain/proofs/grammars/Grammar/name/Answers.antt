use Rattle.std.proofs.Common.{◌≡◌, rules, sym, ◌∙◌}
use Rattle.ipc_lines.proofs.Options.{none_not_some, some_same}
use Rattle.l4sh_explain.proofs.Names.{name_found, name_only}
use Rattle.l4sh_explain.proofs.grammars.Grammar.name.Goals as goal

pub returns-in_err-name-clause-only : goal.returns-in_err-name-clause-only
returns-in_err-name-clause-only c name of e =
    let none = c.in_err-name.ensures in
    let some = name_only c.args.text.now name e in
    absurd (none_not_some _ _ (sym none) some)

pub returns-then-has-clause-found : goal.returns-then-has-clause-found
returns-then-has-clause-found c =
    let spelled = name_found c.args.text.now c.in_ok-name.name (sym c.in_ok-name.ensures) in
    search rules

pub returns-then-has-clause-only : goal.returns-then-has-clause-only
returns-then-has-clause-only c name of e = c.in_ok-name.ensures ∙ name_only c.args.text.now name e

pub returns-else-has-clause-only : goal.returns-else-has-clause-only
returns-else-has-clause-only c name of e =
    let same : c.in_ok-name.name ≡ name = some_same _ _ (c.in_ok-name.ensures ∙ name_only c.args.text.now name e) in
    let answer = c.has.ensures in
    let test = c.if-has.false in
    absurd (cc (same, of, answer, test))
