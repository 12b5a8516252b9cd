use Rattle.std.proofs.Common.{subst, sym}
use Rattle.l4sh_look.specs.Events.{events_in}
use Rattle.l4sh_look.specs.Tallies.{IsCounted}
use Rattle.l4sh_look.proofs.Told.{no_events}
use Rattle.l4sh_look.proofs.counter.Counter.new.Goals as goal

pub invariant_of-result : goal.invariant_of-result
invariant_of-result c = record {
  counted = λ kept legal. subst (λ H. IsCounted (events_in H) c.new-3.result) (sym c.new.ensures) (no_events c.new-3.result c.new-3.ensures);
}
