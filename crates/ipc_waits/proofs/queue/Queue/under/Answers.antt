use Rattle.std.proofs.lemmas.List.Elements.{All-filter}
use Rattle.std.proofs.Common.{All, ◌<◌}
use Rattle.ipc_words.specs.Limits.{table_slots}
use Rattle.std.proofs.Common.{◌∙◌, ap, subst, sym, filter, nat_le}
use Rattle.std.proofs.lemmas.List.{take_rest}
use Rattle.ipc_waits.specs.Queues.{IsOrdered}
use Rattle.ipc_waits.proofs.Orders.{ordered_filter}
use Rattle.ipc_waits.proofs.Parts.{under_is}
use Rattle.ipc_waits.proofs.queue.Queue.under.Goals as goal

pub returns-clause-value : goal.returns-clause-value
returns-clause-value c =
    take_rest c.until-waits.result.now c.begin_of.result ∙ c.begin_of.ensures.rest
    ∙ ap (filter (λ w. nat_le c.args.key w.key)) c.until-waits.ensures.value ∙ under_is c.args.key c.args.self.now

pub returns-clause-order : goal.returns-clause-order
returns-clause-order c =
    subst IsOrdered (sym (take_rest c.until-waits.result.now c.begin_of.result ∙ c.begin_of.ensures.rest))
    (ordered_filter (λ w. nat_le c.args.key w.key) c.until-waits.result.now c.until-waits.ensures.order)

pub returns-clause-within : goal.returns-clause-within
returns-clause-within c =
    subst (All (λ w. w.place < table_slots)) (sym (take_rest c.until-waits.result.now c.begin_of.result ∙ c.begin_of.ensures.rest))
    (All-filter (λ w. nat_le c.args.key w.key) (λ w. w.place < table_slots) c.until-waits.result.now c.until-waits.ensures.within)
