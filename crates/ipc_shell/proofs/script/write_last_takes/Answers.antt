use Rattle.std.proofs.Common.{arith}
use Rattle.std.specs.String.{string_bytes}
use Rattle.ipc_shell.proofs.Texts.{takes_more, takes_end}
use Rattle.ipc_shell.proofs.script.write_last_takes.Goals as goal

pub loop-place-preserved : goal.loop-place-preserved
loop-place-preserved c =
    takes_more c.args.entries.now c.loop-place.place c.index-entries-place.result (omega arith) c.index-entries-place.is _
    (string_bytes c.loop-place.out) (string_bytes c.write_last_take.new.out) c.loop-place.invariant c.in_ok-write_last_take.ensures

pub returns : goal.returns
returns c = takes_end c.args.entries.now c.loop-place.place _ (string_bytes c.loop-place.out) (omega arith) c.loop-place.invariant
