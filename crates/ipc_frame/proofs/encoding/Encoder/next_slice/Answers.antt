use Rattle.std.proofs.Common.{◌+◌, ◌-◌, refl, arith}
use Rattle.ipc_frame.specs.Sources.{frame_of_source}
use Rattle.ipc_frame.proofs.SpellingLemmas.{length_spelling}
use Rattle.ipc_frame.proofs.LendingLemmas.{lends_next, leads_within}
use Rattle.ipc_frame.proofs.encoding.Encoder.next_slice.Goals as goal

pub overflow_sub-size : goal.overflow_sub-size
overflow_sub-size c =
    let l = length_spelling (frame_of_source c.self.inside.source) in
    omega (arith, c.self.invariant, c.size.ensures.value)

pub returns-clause-bytes : goal.returns-clause-bytes
returns-clause-bytes c =
    (lends_next c.self.inside.source c.self.inside.given c.size.result (4 + c.size.result - c.self.inside.given) c.lend.result.now c.args.self.now c.self.invariant c.size.ensures.value refl c.lend.ensures c.self.view_is).leads

pub returns-clause-within : goal.returns-clause-within
returns-clause-within c =
    leads_within _ _ (lends_next c.self.inside.source c.self.inside.given c.size.result (4 + c.size.result - c.self.inside.given) c.lend.result.now c.args.self.now c.self.invariant c.size.ensures.value refl c.lend.ensures c.self.view_is)
