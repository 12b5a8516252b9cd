use Rattle.std.proofs.Common.{sym, refl, ◌∙◌}
use Rattle.ipc_connection.proofs.TakeLemmas.{finishes_unfinished}
use Rattle.ipc_connection.proofs.call_decoder.CallDecoder.finish.Goals as goal

pub returns-clause-held : goal.returns-clause-held
returns-clause-held c = finishes_unfinished c.self.inside.held c.self.inside.spent c.args.self.now _ c.self.view_is (sym c.is_empty.ensures ∙ c.if-is_empty.false) refl
