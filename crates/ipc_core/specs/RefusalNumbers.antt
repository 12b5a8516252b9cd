-- The numbers of the refusals.
use Rattle.std.specs.Prelude.{ℕ}
use Rattle.ipc_core.specs.declared.refusal.Refusal.{Refusal}
use Rattle.ipc_core.specs.declared.refusal.Refusal.TheVariants.{BadNumber, NumberTaken, NumberWorn, NoMemory}
use Rattle.ipc_core.specs.declared.refusal.Refusal.TheVariants.{HistoryFull, NoThread, Busy, CallsSpent}

-- the number of a refusal, printed after K
abbrev pub refusal_number : Refusal → ℕ
refusal_number BadNumber = 1
refusal_number NumberTaken = 2
refusal_number NumberWorn = 3
refusal_number NoMemory = 4
refusal_number HistoryFull = 5
refusal_number NoThread = 6
refusal_number Busy = 7
refusal_number CallsSpent = 8
