use Rattle.std.proofs.Common.{ap, ◌∙◌}
use Rattle.std.proofs.lemmas.List.{take_rest}
use Rattle.ipc_frame.specs.Numbers.{number_in}
use Rattle.ipc_connection.proofs.HearLemmas.{same_head}
use Rattle.ipc_connection.proofs.held.read_head.Goals as goal

pub returns : goal.returns
returns c =
    let start = c.args.start.now in
    same_head _ _ _ _ _ _ _ _ _ _ _ _
    (c.from_word.ensures ∙ (c.read_u64.ensures ∙ ap (number_in 8) (take_rest start 5)))
    (c.from_word-2.ensures ∙ (c.read_u64-2.ensures ∙ ap (number_in 8) (take_rest start 13)))
    (c.from_word-3.ensures ∙ (c.read_u32.ensures ∙ ap (number_in 4) (take_rest start 21)))
    (c.from_word-4.ensures ∙ (c.read_u64-3.ensures ∙ ap (number_in 8) (take_rest start 25)))
    (c.from_word-5.ensures ∙ (c.read_u64-4.ensures ∙ ap (number_in 8) (take_rest start 33)))
    (c.read_u64-5.ensures ∙ ap (number_in 8) (take_rest start 41))
