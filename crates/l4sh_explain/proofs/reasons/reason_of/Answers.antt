use Rattle.std.proofs.Common.{length, ap, arith}
use Rattle.std.specs.Prelude.{◌==◌}
use Rattle.std.proofs.lemmas.List.{length-map}
use Rattle.std.proofs.lemmas.List.Splits.{length-slice_split}
use Rattle.l4sh_explain.proofs.reasons.reason_of.Goals as goal

pub parts_fault-requires : goal.parts_fault-requires
parts_fault-requires c =
    let shown = ap length c.in_ok-parts.ensures in
    omega (arith, ap length c.deref.ensures.value, length-map c.in_ok-parts.parts.items (λ text. text.now), shown, length-slice_split (λ byte. byte == 32) c.args.line.now)
