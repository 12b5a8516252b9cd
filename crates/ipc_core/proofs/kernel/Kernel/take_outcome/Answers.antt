use Rattle.std.proofs.Common.{arith}
use Rattle.ipc_core.proofs.BookLemmas.{taken_few}
use Rattle.ipc_core.proofs.Resting.{seen_took, takes_one}
use Rattle.ipc_core.proofs.kernel.Kernel.take_outcome.Goals as goal

pub take-requires-clause-few : goal.take-requires-clause-few
take-requires-clause-few c =
    let taken = taken_few _ _ _ c.self.invariant.kernel.stands.legal c.self.invariant.books in
    let within = c.self.invariant.kernel.stands.within in
    let limit = c.self.invariant.kernel.few_entries in
    omega (arith, taken, within, limit)

pub invariant_of-self : goal.invariant_of-self
invariant_of-self c = takes_one _ _ _ c.self.inside.course c.take.new.self c.take.result c.self.invariant c.take.ensures.entries c.take.ensures.room c.take.ensures.taken c.take.ensures.since c.take.ensures.done c.take.ensures.fresh c.take.ensures.held

pub returns-clause-taken : goal.returns-clause-taken
returns-clause-taken c = seen_took _ _ c.take.new.self c.take.result c.self.view_is c.take.ensures.entries c.take.ensures.held c.take.ensures.taken c.take.ensures.since c.take.ensures.room
