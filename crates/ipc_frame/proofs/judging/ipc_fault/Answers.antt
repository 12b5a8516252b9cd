use Rattle.std.proofs.Common.{◌∙◌, ap, refl, arith}
use Rattle.std.proofs.lemmas.List.{take_rest}
use Rattle.ipc_frame.specs.Numbers.{number_in}
use Rattle.ipc_frame.proofs.JudgeLemmas.{words_by_place}
use Rattle.ipc_frame.proofs.judging.ipc_fault.Goals as goal

pub returns : goal.returns
returns c =
    let by_place = words_by_place c.args.size c.args.head.now c.from_word-tag.result _ (c.from_word-tag.ensures ∙ (c.read_u64.ensures ∙ ap (number_in 8) (take_rest c.args.head.now 28))) refl in
    grind (arith, c.words_fault.ensures, by_place)
