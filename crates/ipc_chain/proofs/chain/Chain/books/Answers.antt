use Rattle.std.proofs.Common.{subst}
use Rattle.ipc_chain.specs.Judging.{AreBooks}
use Rattle.ipc_chain.proofs.Keeping.{books_of}
use Rattle.ipc_chain.proofs.chain.Chain.books.Goals as goal

pub returns : goal.returns
returns c = subst (λ v. AreBooks v.past v.taken) c.self.view_is (books_of c.self.inside.history c.self.inside.slots c.self.inside.desks c.self.inside.partners c.self.inside.takes c.kept.result.now c.self.invariant c.kept.ensures.keeps)
