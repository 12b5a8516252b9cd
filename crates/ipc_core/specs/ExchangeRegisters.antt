-- What ExchangeRegisters answers (L4 X.2 manual, ExchangeRegisters: result, control and the bits S
-- and R).
use Rattle.std.specs.Prelude.{ℕ, List, ◌&&◌, if◌then◌else◌, ◌==◌}
use Rattle.ipc_words.specs.ThreadId.{nilthread}
use Rattle.ipc_history.specs.Threads.{is_live, space_of}
use Rattle.ipc_history.specs.declared.entry.Entry.{Entry}
unfoldable pub use Rattle.ipc_history.specs.ExchangeRegisters.{phases_of}
use Rattle.ipc_core.specs.declared.answers.ExregAnswer.{ExregAnswer}

-- nilthread and code 2 where the target is not a live thread of the caller's space; else its id,
-- and its phases before the command
unfoldable pub exreg_answer : List Entry → ℕ → ℕ → ExregAnswer
exreg_answer H thread target =
    (if is_live H target && (space_of H target == space_of H thread)
    then record { result = target; control = phases_of H target; code = 0 }
    else record { result = nilthread; control = 0; code = 2 })
