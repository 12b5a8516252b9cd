use Rattle.std.proofs.Common.{◌≡◌, sym, ◌∙◌}
use Rattle.ipc_lines.proofs.ListTexts.{field_at}
use Rattle.ipc_lines.proofs.Options.{some_same, none_not_some}
use Rattle.l4sh_explain.specs.Rules.{counts_of}
use Rattle.l4sh_explain.proofs.shapes.call_shape.Goals as goal

pub returns-in_default-2 : goal.returns-in_default-2
returns-in_default-2 c thread call is e =
    let counted = c.in_ok-lists.ensures thread call is (field_at c.args.texts.now _ 6 e) (field_at c.args.texts.now _ 7 e) (field_at c.args.texts.now _ 8 e) in
    absurd (none_not_some c.in_ok-lists.field-0 (counts_of call) c.in_default-2.is counted)

pub returns : goal.returns
returns c thread call is e =
    let counted = c.in_ok-lists.ensures thread call is (field_at c.args.texts.now _ 6 e) (field_at c.args.texts.now _ 7 e) (field_at c.args.texts.now _ 8 e) in
    let lists : c.in-Some.lists ≡ counts_of call = some_same _ _ (sym c.in-Some.is ∙ counted) in
    c.shape_with.ensures thread call is (field_at c.args.texts.now _ 1 e) (field_at c.args.texts.now _ 2 e) (field_at c.args.texts.now _ 3 e) (field_at c.args.texts.now _ 4 e) (field_at c.args.texts.now _ 5 e) lists
