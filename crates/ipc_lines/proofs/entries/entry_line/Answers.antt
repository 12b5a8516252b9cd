use Rattle.std.proofs.Common.{◌≤◌, length, ap, arith}
use Rattle.std.specs.String.{string_bytes}
use Rattle.std.proofs.lemmas.Result.{IfOk-weaker}
use Rattle.ipc_lines.specs.Limit.{most_bytes}
use Rattle.ipc_lines.proofs.Longest.{lines_are_within_the_limit}
use Rattle.ipc_lines.proofs.entries.entry_line.Goals as goal

pub returns-clause-within : goal.returns-clause-within
returns-clause-within c =
    let short = lines_are_within_the_limit c.args.entry.now c.entry_is_readable.ensures in
    IfOk-weaker c.line_of.result _ (λ line. length (string_bytes line) ≤ most_bytes) (λ line e. omega (arith, ap length e, short)) c.line_of.ensures
