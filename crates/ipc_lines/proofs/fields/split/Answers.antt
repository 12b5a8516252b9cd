use Rattle.std.proofs.Common.{length, ap, arith}
use Rattle.std.specs.Prelude.{◌==◌}
use Rattle.std.proofs.lemmas.List.{length-map}
use Rattle.std.proofs.lemmas.List.Splits.{length-slice_split}
use Rattle.ipc_lines.proofs.fields.split.Goals as goal

pub returns-then-separators-limit : goal.returns-then-separators-limit
returns-then-separators-limit c = omega (arith, length-slice_split (λ byte. byte == c.args.separator) c.args.text.now)

pub returns : goal.returns
returns c =
    let same = c.in_ok-parts.ensures in
    (same, omega (arith, length-slice_split (λ byte. byte == c.args.separator) c.args.text.now, ap length same, length-map c.in_ok-parts.field-0.items (λ part. part.now)))
