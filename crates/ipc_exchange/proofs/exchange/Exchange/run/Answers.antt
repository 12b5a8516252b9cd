use Rattle.ipc_exchange.proofs.RunningLemmas.{ran_more, ran_none}
use Rattle.ipc_exchange.proofs.exchange.Exchange.run.Goals as goal

pub loop-event-init : goal.loop-event-init
loop-event-init c = ran_none _ _ _ c.in_ok-exchange.ensures c.new-replies.ensures.items

pub loop-event-preserved : goal.loop-event-preserved
loop-event-preserved c = ran_more _ _ _ _ _ _ _ _ c.loop-event.invariant c.happen-reply.ensures c.in_ok-push.ensures.items
