-- Lists that end with no At.
use Rattle.std.proofs.Common.{◌≡◌, refl, sym, ap, ◌∙◌, ℕ, Bool, true, false, List, [], ◌∷◌, ◌++◌, append_assoc, append-nil, map, Some}
use Rattle.std.specs.Option.{option_map_or}
use Rattle.ipc_history.specs.declared.entry.Entry.{Entry}
use Rattle.ipc_history.specs.declared.entry.Entry.TheVariants.{Given, Written}
use Rattle.ipc_history.specs.declared.entry.Input.{Input}
use Rattle.ipc_history.specs.declared.entry.Input.TheVariants as input
use Rattle.ipc_history.specs.declared.entry.Output.{Output}
use Rattle.ipc_laws.proofs.Tests.{not_both}
use Rattle.ipc_laws.proofs.WordLemmas.{last_some_push}
use Rattle.ipc_core.specs.CommandRoom.{is_clock}
use Rattle.ipc_shell.specs.Replays.{ends_at, is_at}

pub ends_push : (Q : List Entry) (e : Entry) → ends_at (Q ++ e ∷ []) ≡ is_at e
ends_push Q e = ap (λ o. option_map_or is_at o false) (last_some_push Some Q e)

pub no_at : (given : Input) → is_clock given ≡ false → is_at (Given given) ≡ false
no_at (input.At moment) no_clock = not_both refl no_clock
no_at _ no_clock = refl

pub ends_outputs : (Q : List Entry) (output : Output) (outputs : List Output) → ends_at (Q ++ map Written (output ∷ outputs)) ≡ false
ends_outputs Q output [] = ends_push Q (Written output)
ends_outputs Q output (next ∷ outputs) =
    ap ends_at (sym (append_assoc Q (Written output ∷ []) (map Written (next ∷ outputs))))
    ∙ ends_outputs (Q ++ Written output ∷ []) next outputs

pub ends_written : (Q : List Entry) (outputs : List Output) → ends_at Q ≡ false → ends_at (Q ++ map Written outputs) ≡ false
ends_written Q [] none = ap ends_at (append-nil Q) ∙ none
ends_written Q (output ∷ outputs) none = ends_outputs Q output outputs
