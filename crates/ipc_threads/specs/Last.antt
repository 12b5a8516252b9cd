-- The last entry of a history, where an output may come of it alone.
use Rattle.std.specs.Prelude.{◌≡◌, List, Option, Some, None, option_and_then}
use Rattle.std.specs.Option.{option_or}
use Rattle.ipc_history.specs.Words.{last}
use Rattle.ipc_history.specs.NextOutput.{stop_after, turn_after}
use Rattle.ipc_history.specs.declared.entry.Entry.{Entry}
use Rattle.ipc_history.specs.declared.entry.Entry.TheVariants.{Given, Written}
use Rattle.ipc_history.specs.declared.entry.Input.TheVariants.{Exreg}
use Rattle.ipc_history.specs.declared.entry.Output.{Output}
use Rattle.ipc_history.specs.declared.entry.Output.TheVariants as output
use Rattle.ipc_threads.specs.declared.last.Last.{Last}
use Rattle.ipc_threads.specs.declared.last.Last.TheVariants.{Nothing, ExchangeRegisters, Began}

-- what the last entry makes come
abbrev pub last_output : List Entry → Option Output
last_output P =
    option_or (option_and_then (stop_after P) (last P)) (option_and_then (turn_after P) (last P))

-- what is kept of an entry as the last one
abbrev pub last_of : Entry → Last
last_of (Given (Exreg thread target control)) = ExchangeRegisters thread target control
last_of (Written (output.Began n m)) = Began n m
last_of _ = Nothing

-- it is the last entry, or nothing comes of that
abbrev pub IsLast : List Entry → Last → Type 0
IsLast P Nothing = last_output P ≡ None
IsLast P (ExchangeRegisters thread target control) = last P ≡ Some (Given (Exreg thread target control))
IsLast P (Began n m) = last P ≡ Some (Written (output.Began n m))
