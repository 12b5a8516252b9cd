use Rattle.std.proofs.Common.{◌∙◌, ℕ, ◌-◌, List, Option, None, ◌++◌, ap₂, take, replicate}
use Rattle.ipc_lock.proofs.inside.Inside.around.Goals as goal

pub returns-clause-owners : goal.returns-clause-owners
returns-clause-owners g c =
    c.in_ok-resize.ensures.items
    ∙ ap₂ (λ (xs : List (Option ℕ)) (n : ℕ). take 1024 xs ++ replicate (1024 - n) None) c.in_ok-owners.ensures.items c.in_ok-owners.ensures.len
