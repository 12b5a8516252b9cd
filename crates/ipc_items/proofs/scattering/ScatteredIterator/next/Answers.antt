use Rattle.std.proofs.Common.{◌+◌, ◌≤◌, length, drop, ◌++◌, sym, ap, ◌∙◌, arith}
use Rattle.std.specs.List.{flat_map}
use Rattle.ipc_items.specs.Pieces.{pieces_of_all}
use Rattle.ipc_items.proofs.ScatterLemmas.{left_more, left_nothing, next_string, next_nothing, next_last, pieces_end_strings, pieces_end_string, pieces_end_buffer}
use Rattle.ipc_items.proofs.scattering.ScatteredIterator.next.Goals as goal
use Rattle.ipc_items.proofs.scattering.ScatteredIterator.next.Goals.{in_default-2-via-in-Some+in_default, in_default-2-via-in_default}

pub returns-in_default-2-clause-steps : goal.returns-in_default-2-clause-steps
returns-in_default-2-clause-steps c =
    let buffers = c.loop-self.self-inside.buffers.now in
    let strings = c.loop-self.self-inside.strings.now in
    let begun = c.loop-self.self-inside.begun in
    let end : length (pieces_of_all buffers strings) ≤ begun =
    elim c.in_default-2.branch [ in_default-2-via-in-Some+in_default w ↦ pieces_end_string buffers strings begun (sym w.in_default-2.ensures') | in_default-2-via-in_default w ↦ pieces_end_buffer buffers strings begun (sym w.in_default-2.ensures) ] in
    next_nothing c.loop-self.self-inside.pieces c.next.new.self (flat_map (λ p. p) (drop begun (pieces_of_all buffers strings))) c.args.self.now c.in_default.ensures.steps (left_nothing buffers strings begun end) (cc)

pub loop-self-preserved : goal.loop-self-preserved
loop-self-preserved c =
    let buffers = c.loop-self.self-inside.buffers.now in
    let strings = c.loop-self.self-inside.strings.now in
    let begun = c.loop-self.self-inside.begun in
    record {
      left = ap (λ ps. ps ++ flat_map (λ p. p) (drop (begun + 1) (pieces_of_all buffers strings))) c.scatter-self-inside.ensures.pieces
          ∙ next_string c.loop-self.self-inside.pieces c.next.new.self _ (flat_map (λ p. p) (drop (begun + 1) (pieces_of_all buffers strings))) (flat_map (λ p. p) (drop begun (pieces_of_all buffers strings))) _ c.in_default.ensures.steps (left_more buffers strings begun c.in-Some-Some.parts.now c.in-Some-Some.bytes.now (sym c.in-Some-Some.ensures) (sym c.in-Some-Some.ensures')) c.loop-self.invariant.left;
      within = omega (arith, c.loop-self-test.true, c.len.ensures.count);
    }

pub returns-clause-steps : goal.returns-clause-steps
returns-clause-steps c =
    let buffers = c.loop-self.self-inside.buffers.now in
    let strings = c.loop-self.self-inside.strings.now in
    let begun = c.loop-self.self-inside.begun in
    next_last c.loop-self.self-inside.pieces c.next-2.new.self (flat_map (λ p. p) (drop begun (pieces_of_all buffers strings))) c.args.self.now c.next-2.result c.next-2.ensures.steps (left_nothing buffers strings begun (pieces_end_strings buffers strings begun (omega (arith, c.loop-self-test.false, c.len.ensures.count)))) (cc)
