use Rattle.std.proofs.Common.{◌≡◌, length, arith, ◌∷◌, ap, sym, ◌∙◌}
use Rattle.std.proofs.lemmas.Result.{IfOk-weaker}
use Rattle.ipc_lines.specs.Reading.{parts_at, texts_of}
use Rattle.ipc_lines.proofs.ListTexts.{spaced_found}
use Rattle.ipc_lines.proofs.Options.{IfSome-weaker}
use Rattle.ipc_shell.specs.Commands.{command_name, command_fields}
use Rattle.ipc_shell.proofs.CommandLemmas.{command_parts, command_count, command_named}
use Rattle.ipc_shell.proofs.reading.read_kernel_command.Goals as goal

-- a line past the limit is no command's
pub returns-then-line-gt-MAX_LINE_BYTES-clause-only : goal.returns-then-line-gt-MAX_LINE_BYTES-clause-only
returns-then-line-gt-MAX_LINE_BYTES-clause-only c command is e =
    absurd (omega (arith, c.if-line-gt-MAX_LINE_BYTES.true, ap length e, c.commands_are_within_the_limit.ensures command is))

pub returns-in-Some-name_of-clause-found : goal.returns-in-Some-name_of-clause-found
returns-in-Some-name_of-clause-found c =
    let rest = texts_of c.in-Some-split_first.rest.now in
    let parts = rw c.in-Some.is at c.in_ok-fields.ensures in
    let texts : texts_of c.deref.result.now ≡ parts_at 32 c.args.line.now = ap texts_of c.deref.ensures.value ∙ parts.0 in
    let first = ap texts_of c.in-Some-split_first.ensures.cases.0 in
    let name = c.in-Some-name_of.ensures.found in
    let all : parts_at 32 c.args.line.now ≡ command_name c.in-Some-name_of.name ∷ rest = sym texts ∙ first ∙ ap (λ n. n ∷ rest) name in
    IfOk-weaker c.command_of.result _ _
    (λ o. IfSome-weaker o _ _ (λ command e. spaced_found c.args.line.now (command_fields command) (all ∙ e))) c.command_of.ensures.found

pub returns-in_default-clause-only : goal.returns-in_default-clause-only
returns-in_default-clause-only c command is e =
    let past = rw c.in_default.is at c.in_ok-fields.ensures in
    let same = command_parts c.args.line.now command is e in
    absurd (omega (arith, past, ap length same, (command_count command).1))

pub returns-in-Some-name_of-clause-only : goal.returns-in-Some-name_of-clause-only
returns-in-Some-name_of-clause-only c command is e =
    let rest = texts_of c.in-Some-split_first.rest.now in
    let parts = rw c.in-Some.is at c.in_ok-fields.ensures in
    let texts : texts_of c.deref.result.now ≡ parts_at 32 c.args.line.now = ap texts_of c.deref.ensures.value ∙ parts.0 in
    let first = ap texts_of c.in-Some-split_first.ensures.cases.0 in
    let name = c.in-Some-name_of.ensures.found in
    let all : parts_at 32 c.args.line.now ≡ command_name c.in-Some-name_of.name ∷ rest = sym texts ∙ first ∙ ap (λ n. n ∷ rest) name in
    c.command_of.ensures.only command is (sym all ∙ command_parts c.args.line.now command is e)

pub returns-clause-only : goal.returns-clause-only
returns-clause-only c command is e =
    let parts = rw c.in-Some.is at c.in_ok-fields.ensures in
    let texts : texts_of c.deref.result.now ≡ parts_at 32 c.args.line.now = ap texts_of c.deref.ensures.value ∙ parts.0 in
    let first = ap texts_of c.in-Some-split_first.ensures.cases.0 in
    let spelled = sym first ∙ texts ∙ command_parts c.args.line.now command is e in
    let named = command_named command c.in-Some-split_first.name.now.now (texts_of c.in-Some-split_first.rest.now) spelled in
    let some = c.in-None.ensures.only named.0 named.1 in
    absurd (cc (some))
