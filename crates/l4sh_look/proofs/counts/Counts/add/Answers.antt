use Rattle.l4sh_look.proofs.TallyLemmas.{counted_more}
use Rattle.l4sh_look.proofs.counts.Counts.add.Goals as goal

pub returns : goal.returns
returns c events was =
    counted_more events c.args.event.now c.args.self.now _ was c.in_ok-add.ensures (c.in_ok-add-2.ensures events was.all)
