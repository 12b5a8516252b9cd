use Rattle.std.proofs.lemmas.List.Sorted.{IsNonDecreasingBy-from_sort}
use Rattle.ipc_compact.proofs.found.Found.sort.Goals as goal

pub returns-clause-order : goal.returns-clause-order
returns-clause-order c = record {
  calls = IsNonDecreasingBy-from_sort (λ n. n) _ c.sort_unstable.ensures.sorted;
  partners = IsNonDecreasingBy-from_sort (λ n. n) _ c.sort_unstable-2.ensures.sorted;
  threads = IsNonDecreasingBy-from_sort (λ n. n) _ c.sort_unstable-3.ensures.sorted;
}
