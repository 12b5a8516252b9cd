use Rattle.std.proofs.Common.{◌≡◌, ◌++◌, take, length, arith, length-append, ap}
use Rattle.std.proofs.lemmas.Grind.{common_steps}
use Rattle.ipc_shell.proofs.lines.append.Goals as goal

pub returns-in-Ok-clause-adds : goal.returns-in-Ok-clause-adds
returns-in-Ok-clause-adds c =
    let cutting = rw c.if-is_whole.true at c.line_end-end.ensures in
    let text = take c.line_end-end.result.0 c.args.chunk.now in
    let is : c.extend_from_slice.new.self.items ≡ c.args.line.now.items ++ text = grind (arith, common_steps) in
    (text, cutting.2, is, cutting.1, λ short. grind (arith, common_steps, ap length is, length-append c.args.line.now.items text))
