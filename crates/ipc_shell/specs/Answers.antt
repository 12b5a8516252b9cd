-- Our choice (docs/FORMATS.md): the answer line of a command of a script, without its newline.
use Rattle.std.specs.Prelude.{ℕ, List, [], ◌∷◌, ◌++◌, Some, None, codes}
use Rattle.std.specs.Fmt.{decimal}
use Rattle.ipc_core.specs.declared.answers.Advance.TheVariants.{Moved, Idle}
use Rattle.ipc_core.specs.declared.command.Answer.{Answer}
use Rattle.ipc_core.specs.declared.command.Answer.TheVariants.{Opened, Entered, Exchanged, Done, Advanced, Taken, Refused}
use Rattle.ipc_core.specs.RefusalNumbers.{refusal_number}
use Rattle.ipc_lines.specs.Lines.{outcome_fields, spaced}
use Rattle.ipc_lines.specs.Texts.{hex_text, id_text}

-- the fields of an answer line
abbrev pub answer_fields : Answer → List (List ℕ)
answer_fields (Opened thread) = codes "=" ∷ id_text thread ∷ []
answer_fields (Entered number) = codes "=" ∷ decimal number ∷ []
answer_fields (Exchanged answer) =
    codes "=" ∷ id_text answer.result ∷ hex_text answer.control ∷ hex_text answer.code ∷ []
answer_fields Done = codes "=" ∷ codes "ok" ∷ []
answer_fields (Advanced Moved) = codes "=" ∷ codes "moved" ∷ []
answer_fields (Advanced Idle) = codes "=" ∷ codes "idle" ∷ []
answer_fields (Taken None) = codes "=" ∷ codes "none" ∷ []
answer_fields (Taken (Some outcome)) = codes "=" ∷ outcome_fields outcome
answer_fields (Refused refusal) = codes "!" ∷ (codes "K" ++ decimal (refusal_number refusal)) ∷ []

abbrev pub answer_text : Answer → List ℕ
answer_text answer = spaced (answer_fields answer)
