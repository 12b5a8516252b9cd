use Rattle.std.proofs.Common.{subst, arith}
use Rattle.std.specs.List.{All}
use Rattle.std.proofs.lemmas.List.{take_all}
use Rattle.std.proofs.lemmas.List.Elements.{All-more}
use Rattle.ipc_lines.specs.Reading.{IsReadable}
use Rattle.ipc_shell.proofs.script.are_readable.Goals as goal

pub loop-place-preserved : goal.loop-place-preserved
loop-place-preserved c =
    All-more IsReadable c.args.entries.now c.loop-place.place c.index-entries-place.result (omega arith) c.loop-place.invariant
    (subst IsReadable c.index-entries-place.is c.entry_is_readable.ensures)

pub returns : goal.returns
returns c = subst (λ list. All IsReadable list) (take_all c.loop-place.place c.args.entries.now (omega arith)) c.loop-place.invariant
