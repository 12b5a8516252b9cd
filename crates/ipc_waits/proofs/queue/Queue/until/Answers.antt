use Rattle.std.proofs.lemmas.List.Elements.{All-filter}
use Rattle.std.proofs.Common.{All, ◌<◌}
use Rattle.ipc_words.specs.Limits.{table_slots}
use Rattle.std.proofs.Common.{◌∙◌, ap, subst, sym}
use Rattle.ipc_waits.specs.Queues.{IsOrdered, until}
use Rattle.ipc_waits.proofs.Orders.{ordered_filter}
use Rattle.std.proofs.Common.{nat_le}
use Rattle.ipc_waits.proofs.queue.Queue.until.Goals as goal

pub returns-clause-order : goal.returns-clause-order
returns-clause-order c =
    subst IsOrdered (sym (c.end_of.ensures.front ∙ ap (until c.args.moment) c.as_slice-waits.ensures.value))
    (ordered_filter (λ w. nat_le w.key c.args.moment) c.self.inside.waits.items c.self.invariant.0.ordered)

pub returns-clause-within : goal.returns-clause-within
returns-clause-within c =
    subst (All (λ w. w.place < table_slots)) (sym (c.end_of.ensures.front ∙ ap (until c.args.moment) c.as_slice-waits.ensures.value))
    (All-filter (λ w. nat_le w.key c.args.moment) (λ w. w.place < table_slots) c.self.inside.waits.items c.self.invariant.0.within)
