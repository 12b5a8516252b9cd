use Rattle.std.proofs.Common.{◌≡◌, ◌<◌, List, ◌++◌, length, ap, ◌∙◌, arith}
use Rattle.std.specs.Prelude.{min}
use Rattle.std.specs.String.{string_bytes}
use Rattle.ipc_trace.specs.Parts.{lines_text}
use Rattle.ipc_trace.specs.declared.line.PartLine.{PartLine}
use Rattle.ipc_trace.proofs.Written.{numbers_cut, numbers_written}
use Rattle.ipc_trace.proofs.base_text.write_numbers.Goals as goal

pub loop-place-preserved : goal.loop-place-preserved
loop-place-preserved c =
    let in_vs : c.loop-place.place < length c.args.versions.now = omega (arith, c.min-place-end.ensures, c.loop-place-test.true) in
    let in_ds : c.loop-place.place < length c.args.dropped.now = omega (arith, c.min-place-end.ensures, c.loop-place-test.true) in
    numbers_written (string_bytes c.args.out.now) (string_bytes c.loop-place.out) (string_bytes c.write_number.new.out) c.args.versions.now c.args.dropped.now c.loop-place.place in_vs in_ds
    c.loop-place.invariant c.in_ok-write_number.ensures

pub returns : goal.returns
returns c =
    let all : c.loop-place.place ≡ min (length c.args.versions.now) (length c.args.dropped.now) = omega (arith, c.min-place-end.ensures, c.loop-place-test.false, c.loop-place.auto.place-end) in
    c.loop-place.invariant
    ∙ ap (λ (l : List PartLine). string_bytes c.args.out.now ++ lines_text l) (numbers_cut 0 c.args.versions.now c.args.dropped.now c.loop-place.place all)
