use Rattle.std.proofs.Common.{◌≡◌, subst, sym}
use Rattle.ipc_history.specs.Legal.{Follows, Legal}
use Rattle.l4sh_look.specs.Events.{event_in}
use Rattle.l4sh_look.proofs.Told.{counting_more}
use Rattle.l4sh_look.proofs.counter.Counter.give.Goals as goal

pub invariant_of-self-2 : goal.invariant_of-self-2
invariant_of-self-2 c =
    counting_more c.self.inside.checker c.give.new.self c.args.entry c.event_of-event.result c.self.inside.counts c.is_lost_at-self-inside.new.counts
    c.self.inside.is_lost c.is_lost_at-self-inside.result c.in_ok-give.ensures.ok
    (subst (λ H. Legal H → Follows H c.args.entry → c.event_of-event.result ≡ event_in H c.args.entry) (sym c.self.view_is) c.event_of-event.ensures)
    c.self.invariant c.is_lost_at-self-inside.ensures
