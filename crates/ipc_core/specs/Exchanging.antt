-- An input that is a call of words which reaches a receiving call: its transfer begins and ends
-- with it.
use Rattle.std.specs.Prelude.{ℕ, List, [], ◌∷◌, ◌++◌, Bool, false}
use Rattle.ipc_history.specs.declared.entry.Entry.{Entry}
use Rattle.ipc_history.specs.declared.entry.Entry.TheVariants.{Given, Written}
use Rattle.ipc_history.specs.declared.entry.Input.TheVariants.{Called}
use Rattle.ipc_history.specs.declared.entry.Output.TheVariants.{Ended}
use Rattle.ipc_laws.specs.Exchange.{Reaches, begun, exchanged}
use Rattle.ipc_desks.specs.Finishes.{finishes}

-- the entry is a call that reaches r
abbrev pub IsReaching : List Entry → Entry → ℕ → Type 0
IsReaching P (Given (Called n thread call)) r = Reaches P thread call r
IsReaching P _ r = ⊥

-- the history with the three entries
abbrev pub with_exchange : List Entry → Entry → ℕ → List Entry
with_exchange P (Given (Called n thread call)) r = exchanged P n thread call r
with_exchange P e r = P ++ e ∷ []

-- the thread is one of those whose calls the last of them ends
abbrev pub exchange_finishes : List Entry → Entry → ℕ → ℕ → Bool
exchange_finishes P (Given (Called n thread call)) r t = finishes (begun P n thread call r) (Written (Ended n r)) t
exchange_finishes P e r t = false
