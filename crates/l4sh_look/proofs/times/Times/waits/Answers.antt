use Rattle.std.proofs.Common.{ap, ◌∙◌, ◌++◌, subst, arith, rules}
use Rattle.std.specs.List.Sorted.{IsPermutation}
use Rattle.std.proofs.lemmas.List.Sorted.{IsNonDecreasingBy-from_sort_by_key}
use Rattle.l4sh_look.proofs.RunLemmas.{held_waits}
use Rattle.l4sh_look.proofs.times.Times.waits.Goals as goal

pub returns : goal.returns
returns c times held =
    let sorted = c.sort_unstable_by_key.new.self.items in
    let copied = c.in_ok-extend_from_slice.ensures.items ∙ ap (λ l. l ++ c.deref.result.now) c.new-runs.ensures.items ∙ c.deref.ensures.value in
    held_waits times c.args.self.now sorted (record { median = c.time_at.result; most = c.time_at-2.result; longest = c.time_at-3.result }) held
    (omega (arith, c.if-self-eq0.false))
    (subst (λ l. IsPermutation l sorted) copied c.sort_unstable_by_key.ensures.permutation)
    (IsNonDecreasingBy-from_sort_by_key (λ run. run.time) sorted c.sort_unstable_by_key.ensures.sorted (λ a r q k. search rules))
    (rw c.deref-2.ensures.value at c.time_at.ensures)
    (rw c.deref-3.ensures.value at c.time_at-2.ensures)
    (rw c.deref-4.ensures.value at c.time_at-3.ensures)
