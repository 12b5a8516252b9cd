use Rattle.std.proofs.Common.{◌∙◌}
use Rattle.std.proofs.lemmas.List.{take_rest}
use Rattle.ipc_client.proofs.CutLemmas.{cut_more}
use Rattle.ipc_client.proofs.received.cut.Goals as goal

pub strings-preserved : goal.strings-preserved
strings-preserved c =
    cut_more c.strings.strings.items c.push.new.self.items c.in_ok-copied.field-0
    c.strings.items.now _ c.strings.bytes.now c.split.result.1.now _ c.strings-test.true
    (c.in_ok-copied.ensures ∙ c.split.ensures.own) c.split.ensures.behind
    (take_rest c.strings.items.now 2) c.in_ok-push.ensures.items c.strings.invariant
