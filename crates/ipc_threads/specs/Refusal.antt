use Rattle.std.specs.Prelude.{ℕ}
use Rattle.ipc_threads.specs.declared.refusal.ThreadRefusal.{ThreadRefusal}
use Rattle.ipc_threads.specs.declared.refusal.ThreadRefusal.TheVariants.{BadNumber, NumberTaken, NumberWorn}

-- K1, K2 and K3
abbrev pub refusal_number : ThreadRefusal → ℕ
refusal_number BadNumber = 1
refusal_number NumberTaken = 2
refusal_number NumberWorn = 3
