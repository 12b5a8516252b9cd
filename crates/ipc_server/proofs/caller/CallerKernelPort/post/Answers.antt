use Rattle.ipc_server.proofs.DoingLemmas.{posts_on}
use Rattle.ipc_server.proofs.caller.CallerKernelPort.post.Goals as goal

pub invariant_of-self : goal.invariant_of-self
invariant_of-self g c = posts_on _ _ _ _ _ _ c.self.invariant c.post.ensures.posts c.post.ensures.posted
