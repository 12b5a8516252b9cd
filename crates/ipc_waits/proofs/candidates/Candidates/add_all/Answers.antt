use Rattle.std.proofs.Common.{◌<◌}
use Rattle.std.proofs.lemmas.List.Elements.{All-get_or}
use Rattle.ipc_words.specs.Limits.{table_slots}
use Rattle.ipc_waits.proofs.CandidateLemmas.{added_all, added_more, added_none}
use Rattle.ipc_waits.proofs.candidates.Candidates.add_all.Goals as goal

pub add-requires : goal.add-requires
add-requires c = All-get_or (λ w. w.place < table_slots) c.args.waits.now c.loop-wait.wait-index _ c.loop-wait-test.true c.requires

pub loop-wait-init : goal.loop-wait-init
loop-wait-init c = added_none _ c.args.waits.now

pub loop-wait-preserved : goal.loop-wait-preserved
loop-wait-preserved c = added_more _ _ _ c.args.waits.now c.loop-wait.wait-index _ c.loop-wait-test.true c.loop-wait.invariant c.add.ensures

pub returns : goal.returns
returns c = added_all _ _ c.args.waits.now c.loop-wait.wait-index c.loop-wait-test.false c.loop-wait.invariant
