-- What one more entry makes the last one.
use Rattle.std.proofs.Common.{◌≡◌, refl, List, [], ◌∷◌, ◌++◌, Some, None}
use Rattle.ipc_history.specs.Words.{last}
use Rattle.ipc_history.specs.NextOutput.{stop_after, turn_after}
use Rattle.ipc_history.specs.declared.entry.Entry.{Entry}
use Rattle.ipc_history.specs.declared.entry.Entry.TheVariants.{Given, Written}
use Rattle.ipc_history.specs.declared.entry.Input.TheVariants.{Exreg}
use Rattle.ipc_history.specs.declared.entry.Output.TheVariants.{Began}
use Rattle.ipc_laws.proofs.WordLemmas.{last_some_push}
use Rattle.ipc_threads.specs.Last.{IsLast, last_of}
use Rattle.ipc_threads.specs.Last.{last_output}

last_push : (P : List Entry) (e : Entry) → last (P ++ e ∷ []) ≡ Some e
last_push P e = last_some_push (λ x. Some x) P e

nothing_comes : (P : List Entry) (e : Entry) → stop_after (P ++ e ∷ []) e ≡ None → turn_after (P ++ e ∷ []) e ≡ None
    → last_output (P ++ e ∷ []) ≡ None
nothing_comes P e stops turns = rw (last_push P e, stops, turns) refl

pub ends_with : (P : List Entry) (e : Entry) → IsLast (P ++ e ∷ []) (last_of e)
unfolding stop_after turn_after
ends_with P (Given (Exreg thread target control)) = last_push P (Given (Exreg thread target control))
ends_with P (Written (Began n m)) = last_push P (Written (Began n m))
ends_with P e = nothing_comes P e refl refl
