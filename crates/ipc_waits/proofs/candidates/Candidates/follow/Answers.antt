use Rattle.std.proofs.Common.{ap, ◌∙◌}
use Rattle.ipc_waits.specs.Finding.{is_among}
use Rattle.ipc_waits.proofs.CandidateLemmas.{among_with}
use Rattle.ipc_waits.proofs.Dropped.{added}
use Rattle.ipc_waits.proofs.candidates.Candidates.follow.Goals as goal

pub returns-then-is_open : goal.returns-then-is_open
returns-then-is_open c = rw c.if-is_open.true (added c.args.self.now _ c.args.place (λ k. ap (λ l. is_among l k) c.add.ensures ∙ among_with c.args.self.now c.args.place k))
