-- Where the run of a script ends as with a failed device.
use Rattle.std.specs.Prelude.{ℕ, ◌-◌, ◌^◌, ◌<◌, ◌≤◌, List, Option, IfSome, length, ◌⊎◌}
use Rattle.ipc_shell.specs.ScriptLines.{lines_of}

-- so many lines of a script are counted; the run ends behind them as with a failed device
abbrev pub most_lines : ℕ
most_lines = 2 ^ 64 - 2

-- the count of the failures rose, or the script has more lines than are counted
abbrev pub HasFailed : ℕ → ℕ → Option (List ℕ) → Type 0
HasFailed before after bytes =
    (before < after) ⊎ IfSome bytes (λ bytes. most_lines ≤ length (lines_of bytes))
