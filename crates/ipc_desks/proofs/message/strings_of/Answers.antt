use Rattle.std.proofs.Common.{◌∙◌, sym}
use Rattle.ipc_desks.proofs.MessageLemmas.{no_strings}
use Rattle.ipc_desks.proofs.message.strings_of.Goals as goal

pub returns-then-is_empty-clause-strings : goal.returns-then-is_empty-clause-strings
returns-then-is_empty-clause-strings g c = c.new.ensures ∙ sym (no_strings c.args.strings.now (sym c.is_empty.ensures ∙ c.if-is_empty.true))
