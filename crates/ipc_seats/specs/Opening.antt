-- What an open answers.
use Rattle.std.specs.Prelude.{ℕ, Result, Ok, Err}
use Rattle.ipc_core.specs.declared.command.Answer.{Answer}
use Rattle.ipc_core.specs.declared.command.Answer.TheVariants.{Opened, Refused}
use Rattle.ipc_core.specs.declared.refusal.Refusal.{Refusal}

-- the seat of its outcomes comes along
abbrev pub open_answer : {T : Type 0} → Result (ℕ × T) Refusal → Answer
open_answer (Ok opened) = Opened opened.0
open_answer (Err refusal) = Refused refusal
