use Rattle.std.proofs.Common.{◌≡◌, ◌∷◌, length, arith, ap, sym, ◌∙◌}
use Rattle.std.proofs.lemmas.Result.{IfOk-weaker}
use Rattle.ipc_lines.specs.Reading.{parts_at, texts_of}
use Rattle.ipc_lines.specs.Lines.{entry_fields}
use Rattle.ipc_lines.specs.Names.{entry_name}
use Rattle.ipc_lines.proofs.Spacing.{entry_parts, entry_count}
use Rattle.ipc_lines.proofs.EntryNaming.{entry_named}
use Rattle.ipc_lines.proofs.Names.{name_found, name_only}
use Rattle.ipc_lines.proofs.ListTexts.{spaced_found}
use Rattle.ipc_lines.proofs.Options.{IfSome-weaker, none_not_some}
use Rattle.ipc_lines.proofs.reading.entry_in.Goals as goal

pub returns-in-Some-name_of-clause-found : goal.returns-in-Some-name_of-clause-found
returns-in-Some-name_of-clause-found c =
    let parts = rw c.in-Some.is at c.in_ok-fields.ensures in
    let texts : texts_of c.deref.result.now ≡ parts_at 32 c.args.line.now = ap texts_of c.deref.ensures.value ∙ parts.0 in
    let first = ap texts_of c.in-Some-split_first.ensures.cases.0 in
    let name = name_found c.in-Some-split_first.name.now.now c.in-Some-name_of.name (sym c.in-Some-name_of.ensures) in
    let all : parts_at 32 c.args.line.now ≡ entry_name c.in-Some-name_of.name ∷ texts_of c.in-Some-split_first.rest.now = sym texts ∙ first ∙ ap (λ n. n ∷ texts_of c.in-Some-split_first.rest.now) name in
    IfOk-weaker c.entry_of.result _ _ (λ o. IfSome-weaker o _ _ (λ entry e. spaced_found c.args.line.now (entry_fields entry) (all ∙ e))) c.entry_of.ensures.found

pub returns-in_default-clause-only : goal.returns-in_default-clause-only
returns-in_default-clause-only c entry is e =
    let past = rw c.in_default.is at c.in_ok-fields.ensures in
    let same = entry_parts c.args.line.now entry is e in
    absurd (omega (arith, past, ap length same, (entry_count entry).1))

pub returns-in-Some-name_of-clause-only : goal.returns-in-Some-name_of-clause-only
returns-in-Some-name_of-clause-only c entry is e =
    let parts = rw c.in-Some.is at c.in_ok-fields.ensures in
    let texts : texts_of c.deref.result.now ≡ parts_at 32 c.args.line.now = ap texts_of c.deref.ensures.value ∙ parts.0 in
    let first = ap texts_of c.in-Some-split_first.ensures.cases.0 in
    let name = name_found c.in-Some-split_first.name.now.now c.in-Some-name_of.name (sym c.in-Some-name_of.ensures) in
    let all : parts_at 32 c.args.line.now ≡ entry_name c.in-Some-name_of.name ∷ texts_of c.in-Some-split_first.rest.now = sym texts ∙ first ∙ ap (λ n. n ∷ texts_of c.in-Some-split_first.rest.now) name in
    c.entry_of.ensures.only entry is (sym all ∙ entry_parts c.args.line.now entry is e)

pub returns-clause-only : goal.returns-clause-only
returns-clause-only c entry is e =
    let parts = rw c.in-Some.is at c.in_ok-fields.ensures in
    let texts : texts_of c.deref.result.now ≡ parts_at 32 c.args.line.now = ap texts_of c.deref.ensures.value ∙ parts.0 in
    let first = ap texts_of c.in-Some-split_first.ensures.cases.0 in
    let named = entry_named entry (c.in-Some-split_first.name.now.now) (texts_of c.in-Some-split_first.rest.now) (sym first ∙ texts ∙ entry_parts c.args.line.now entry is e) in
    let none = c.in-None.ensures in
    let some = name_only c.in-Some-split_first.name.now.now named.0 named.1 in
    absurd (none_not_some _ _ (sym none) some)
