use Rattle.std.proofs.Common.{◌≡◌, ◌==◌, false, arith}
use Rattle.std.proofs.lemmas.List.Elements.{All-from_all_within}
use Rattle.std.proofs.lemmas.List.Folds.{list_any_none}
use Rattle.ipc_waits.proofs.waiting.passing.wait_of.Goals as goal

pub returns-clause-none : goal.returns-clause-none
returns-clause-none c =
    let all = c.loop-wait-test.false in
    list_any_none (λ w. w.number == c.args.number) c.args.waits.now (All-from_all_within (λ w. (w.number == c.args.number) ≡ false) c.args.waits.now (λ k d low high. c.loop-wait.invariant k d low (omega (arith, all))))
