-- How many threads a history opened.
use Rattle.std.specs.Prelude.{ℕ, Bool, true, false, List, filter, length}
use Rattle.ipc_history.specs.declared.entry.Entry.{Entry}
use Rattle.ipc_history.specs.declared.entry.Entry.TheVariants.{Given}
use Rattle.ipc_history.specs.declared.entry.Input.TheVariants.{Opened}

abbrev pub opens_a_thread : Entry → Bool
opens_a_thread (Given (Opened thread space)) = true
opens_a_thread _ = false

unfoldable pub opens : List Entry → ℕ
opens H = length (filter opens_a_thread H)
