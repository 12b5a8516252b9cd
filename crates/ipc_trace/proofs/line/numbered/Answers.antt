use Rattle.std.proofs.Common.{sym, ◌∙◌}
use Rattle.std.proofs.lemmas.List.{append_cancel_left}
use Rattle.ipc_trace.proofs.line.numbered.Goals as goal

pub returns-clause-only : goal.returns-clause-only
returns-clause-only c number is e = c.read_decimal.ensures.only number is (append_cancel_left c.args.word.now _ _ (sym c.in_ok-behind.ensures ∙ e))
