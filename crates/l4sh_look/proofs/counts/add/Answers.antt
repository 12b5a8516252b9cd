use Rattle.std.proofs.Common.{subst, sym}
use Rattle.l4sh_look.specs.Tallies.{IsTally, IsTallyOf}
use Rattle.l4sh_look.proofs.TallyLemmas.{added, taken}
use Rattle.l4sh_look.proofs.counts.add.Goals as goal

pub returns : goal.returns
returns c =
    added c.args.groups.now c.remove.new.self c.insert.new.self c.args.event c.add.new.self c.to_word.result c.to_word-2.result
    c.to_word.ensures c.to_word-2.ensures c.remove.ensures.updates c.in_ok-insert.ensures.updates
    (λ events was. c.in_ok-add.ensures events (subst (IsTally events) (sym c.unwrap_or-tally.ensures)
    (taken c.remove.result c.new.result c.new.ensures events (subst (IsTallyOf events) (sym c.remove.ensures.value) was))))
