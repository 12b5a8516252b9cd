-- A history from its inputs, computed.
use Rattle.std.proofs.Common.{ℕ, zero, suc, List, [], ◌∷◌, ◌++◌, Option, Some, None, true, false}
use Rattle.ipc_history.specs.NextOutput.{next_output}
use Rattle.ipc_history.specs.Legal.{is_admissible}
use Rattle.ipc_history.specs.declared.entry.Entry.{Entry}
use Rattle.ipc_history.specs.declared.entry.Entry.TheVariants.{Given, Written}
use Rattle.ipc_history.specs.declared.entry.Input.{Input}

-- with at most fuel outputs written, one after the other
unfoldable pub settled : ℕ → List Entry → List Entry
settled zero P = P
settled (suc fuel) P = elim (next_output P) [ None ↦ P | Some output ↦ settled fuel (P ++ Written output ∷ []) ]

-- each input in turn, if it is admissible there, and the outputs after it
unfoldable pub run : List Entry → List Input → Option (List Entry)
run P [] = Some P
run P (input ∷ inputs) = elim (is_admissible P input) [ true ↦ run (settled 6 (P ++ Given input ∷ [])) inputs | false ↦ None ]
