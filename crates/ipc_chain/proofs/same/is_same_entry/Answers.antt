use Rattle.std.proofs.Common.{ap}
use Rattle.ipc_lines.specs.Lines.{entry_text}
use Rattle.ipc_chain.proofs.same.is_same_entry.Goals as goal

pub returns : goal.returns
returns c = (
  λ same. c.entries_have_lines_of_their_own.ensures c.args.ours.now c.args.entry.now c.in_ok-line.ensures.readable c.in_ok-other.ensures.readable
      (let k = c.are_equal.ensures.0 same in cc (k, c.in_ok-line.ensures.value, c.in_ok-other.ensures.value)),
  λ is. c.are_equal.ensures.1 (let k = ap entry_text is in cc (k, c.in_ok-line.ensures.value, c.in_ok-other.ensures.value)),
)
