-- The definitions at examples, by computation: a wrong rule in them does not check.
use Rattle.std.proofs.Common.{◌≡◌, [], ◌∷◌, codes, refl, None}
use Rattle.ipc_core.specs.declared.answers.Advance.TheVariants.{Moved}
use Rattle.ipc_core.specs.declared.command.Answer.TheVariants.{Done, Advanced, Taken}
use Rattle.ipc_core.specs.declared.command.Command.TheVariants.{Advance, Take}
use Rattle.ipc_shell.specs.Answers.{answer_text}
use Rattle.ipc_shell.specs.Commands.{command_text}
use Rattle.ipc_shell.specs.ScriptLines.{lines_of}

no_line : lines_of [] ≡ []
no_line = refl

an_empty_line : lines_of (10 ∷ []) ≡ [] ∷ []
an_empty_line = refl

-- `a`, a newline, a newline, and `b` without one
three_lines : lines_of (97 ∷ 10 ∷ 10 ∷ 98 ∷ []) ≡ (97 ∷ []) ∷ [] ∷ (98 ∷ []) ∷ []
three_lines = refl

no_line_after_the_last_newline : lines_of (97 ∷ 10 ∷ []) ≡ (97 ∷ []) ∷ []
no_line_after_the_last_newline = refl

a_thing_done : answer_text Done ≡ codes "= ok"
a_thing_done = refl

a_moved_block : answer_text (Advanced Moved) ≡ codes "= moved"
a_moved_block = refl

nothing_to_take : answer_text (Taken None) ≡ codes "= none"
nothing_to_take = refl

an_advance : command_text Advance ≡ codes "advance"
an_advance = refl

a_taking : command_text (Take 0) ≡ codes "take nil"
a_taking = refl
