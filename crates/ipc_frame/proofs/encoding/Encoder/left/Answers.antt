use Rattle.std.proofs.Common.{length, ap, arith}
use Rattle.std.proofs.lemmas.List.{length-drop}
use Rattle.ipc_frame.specs.Frames.{spelling}
use Rattle.ipc_frame.specs.Sources.{frame_of_source}
use Rattle.ipc_frame.proofs.SpellingLemmas.{length_spelling}
use Rattle.ipc_frame.proofs.encoding.Encoder.left.Goals as goal

pub overflow_sub-result : goal.overflow_sub-result
overflow_sub-result c =
    let l = length_spelling (frame_of_source c.self.inside.source) in
    omega (arith, c.self.invariant, c.size.ensures.value)

pub returns : goal.returns
returns c =
    let l = length_spelling (frame_of_source c.self.inside.source) in
    let size = c.size.ensures.value in
    let dropped = length-drop c.self.inside.given (spelling (frame_of_source c.self.inside.source)) in
    omega (arith, ap length c.self.view_is, c.self.invariant, size, l, dropped)
