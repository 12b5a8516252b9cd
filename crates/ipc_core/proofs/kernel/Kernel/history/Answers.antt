use Rattle.std.proofs.Common.{◌≡◌, ℕ, ◌+◌, ◌^◌, ap, subst, ◌≤◌, ◌<◌, length, arith}
use Rattle.ipc_history.specs.Paired.{Paired}
use Rattle.ipc_laws.proofs.Promise.{paired}
use Rattle.ipc_laws.specs.Laws.{one_if}
use Rattle.ipc_core.specs.Laws.{IsSound}
use Rattle.ipc_core.specs.Outcomes.{has_untaken, made_by, taken_by}
use Rattle.ipc_core.proofs.BusyLaws.{counted_live}
use Rattle.ipc_core.proofs.kernel.Kernel.history.Goals as goal

pub returns-clause-paired : goal.returns-clause-paired
returns-clause-paired c = subst Paired (ap (λ k. k.history) c.self.view_is) (paired _ c.self.invariant.kernel.stands.legal)

pub returns-clause-within : goal.returns-clause-within
returns-clause-within c = subst (λ k. length k.history ≤ k.entries_limit) c.self.view_is (let within = c.self.invariant.kernel.stands.within in omega arith)

pub returns-clause-few : goal.returns-clause-few
returns-clause-few c = subst (λ k. length k.history < 2 ^ 63) c.self.view_is (let within = c.self.invariant.kernel.stands.within in let few = c.self.invariant.kernel.few_entries in omega (arith, within, few))

pub returns-clause-sound : goal.returns-clause-sound
returns-clause-sound c = subst IsSound c.self.view_is (record {
  legal = c.self.invariant.kernel.stands.legal;
  quiet = c.self.invariant.kernel.stands.quiet;
  taken = c.self.invariant.books.taken_are;
  once = c.self.invariant.books.once;
  others = c.self.invariant.books.others;
  since = c.self.invariant.books.begun;
})

pub returns-clause-counted : goal.returns-clause-counted
returns-clause-counted c = subst (λ k. (t : ℕ) → taken_by k t + one_if (has_untaken k t) ≡ made_by k.history t) c.self.view_is (counted_live _ c.whole.ensures.counted)
