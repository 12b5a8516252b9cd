-- The output of the open calls, in its parts.
use Rattle.std.specs.Prelude.{ℕ, List, Option}
use Rattle.std.specs.Option.{option_or}
use Rattle.ipc_history.specs.Words.{first_some}
use Rattle.ipc_history.specs.Calls.{numbers}
use Rattle.ipc_history.specs.NextOutput.{end_of, partner_gone_of, meeting_of, timeout_of}
use Rattle.ipc_history.specs.declared.entry.Entry.{Entry}
use Rattle.ipc_history.specs.declared.entry.Output.{Output}

-- what a rule gives for the least call
abbrev pub least_of : (List Entry → ℕ → Option Output) → List Entry → Option Output
least_of rule P = first_some (rule P) (numbers P)

-- the first of the rules that ask the open calls
abbrev pub waiting_output : List Entry → Option Output
waiting_output P =
    option_or (least_of end_of P)
    (option_or (least_of partner_gone_of P) (option_or (least_of meeting_of P) (least_of timeout_of P)))
