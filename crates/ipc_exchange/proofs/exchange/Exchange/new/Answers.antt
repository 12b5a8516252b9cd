use Rattle.ipc_exchange.proofs.ExchangeLemmas.{empty_is}
use Rattle.ipc_exchange.proofs.exchange.Exchange.new.Goals as goal

pub invariant_of-result : goal.invariant_of-result
invariant_of-result c = empty_is c.in_ok-service.service c.new-2.result.items _ _ c.in_ok-service.ensures.service c.in_ok-service.ensures.none c.new-2.ensures.items c.in_ok-service.ensures.ready
