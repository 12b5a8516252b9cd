use Rattle.ipc_core.proofs.CompactLemmas.{holds_compact}
use Rattle.ipc_core.proofs.laws.holds_compact.Goals as goal

pub returns : goal.returns
returns c = holds_compact
