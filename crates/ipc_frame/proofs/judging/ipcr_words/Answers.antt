use Rattle.std.proofs.Common.{◌+◌, ◌-◌, drop, ap, ap₂, ◌∙◌}
use Rattle.std.proofs.lemmas.List.{take_rest}
use Rattle.ipc_frame.specs.Numbers.{number_in}
use Rattle.ipc_frame.specs.Parts.{words_of}
use Rattle.ipc_frame.proofs.JudgeLemmas.{tag_there}
use Rattle.ipc_frame.proofs.judging.ipcr_words.Goals as goal

pub returns : goal.returns
returns c =
    let tag = c.from_word-tag.ensures ∙ (c.read_u64.ensures ∙ (ap (number_in 8) (take_rest c.args.head.now (c.head.result - 32) ∙ ap (λ n. drop (n - 32) c.args.head.now) c.head.ensures) ∙ tag_there c.args.kind c.args.head.now c.requires.pieced)) in
    ap₂ (λ a b. a + b) c.untyped.ensures c.typed.ensures ∙ ap words_of tag
