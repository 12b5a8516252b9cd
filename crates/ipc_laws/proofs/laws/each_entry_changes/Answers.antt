use Rattle.ipc_laws.proofs.Changing.{changes, others_unchanged}
use Rattle.ipc_laws.proofs.laws.each_entry_changes.Goals as goal

pub returns-clause-changes : goal.returns-clause-changes
returns-clause-changes c = changes

pub returns-clause-others : goal.returns-clause-others
returns-clause-others c = others_unchanged
