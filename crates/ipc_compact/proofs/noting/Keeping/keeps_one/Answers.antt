use Rattle.std.proofs.Common.{◌∙◌, sym}
use Rattle.ipc_compact.proofs.PassingLemmas.{none_first, some_first}
use Rattle.ipc_compact.proofs.noting.Keeping.keeps_one.Goals as goal

pub returns-then-keeps_call : goal.returns-then-keeps_call
returns-then-keeps_call c = c.if-keeps_call.true ∙ sym (some_first c.args.sending c.args.receiving c.args.self.now.calls (sym c.keeps_call.ensures ∙ c.if-keeps_call.true))

pub returns-else-keeps_call : goal.returns-else-keeps_call
returns-else-keeps_call c = c.keeps_call-else-keeps_call.ensures ∙ sym (none_first c.args.sending c.args.receiving c.args.self.now.calls (sym c.keeps_call.ensures ∙ c.if-keeps_call.false))
