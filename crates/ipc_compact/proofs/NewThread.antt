-- A thread that was opened is not opened again.
use Rattle.std.proofs.lemmas.Bool.{false≢true, false_from_ne_true}
use Rattle.std.proofs.lemmas.List.Sums.{sum_by-append}
use Rattle.std.proofs.Common.{◌≡◌, ℕ, cond, true, false, List, ◌++◌, arith}
use Rattle.ipc_history.specs.Entries.{opens}
use Rattle.ipc_history.specs.Threads.{was_opened}
use Rattle.ipc_history.specs.Legal.{Legal}
use Rattle.ipc_history.specs.declared.entry.Entry.{Entry}
use Rattle.ipc_laws.proofs.OneLive.{opened_once}
use Rattle.ipc_threads.proofs.ThreadSteps.{counts_one}

pub opened_before : (P F : List Entry) → Legal (P ++ F) → (t : ℕ) → was_opened P t ≡ true → was_opened F t ≡ false
unfolding was_opened
opened_before P F legal t opened = false_from_ne_true _ (λ again.
    let once = opened_once (P ++ F) legal t in
    let first = counts_one (opens t) P opened in
    let second = counts_one (opens t) F again in
    omega (arith, once, first, second, sum_by-append (λ e. cond (opens t e) 1 0) P F))
