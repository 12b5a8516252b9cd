use Rattle.std.proofs.Common.{sym, ap, ◌∙◌}
use Rattle.ipc_words.specs.Version.{next_version_of}
use Rattle.ipc_threads.proofs.SlotTables.{version_is}
use Rattle.ipc_threads.proofs.slot_table.SlotTable.next_version_of.Goals as goal

pub returns : goal.returns
returns c = c.next_version.ensures ∙ ap next_version_of c.last_version.ensures ∙ sym (version_is c.self.inside.threads c.self.inside.calls c.args.self.now (c.self.invariant.0 ∙ sym c.self.invariant.1) c.self.view_is c.args.number)
