use Rattle.ipc_exchange.proofs.FeedLemmas.{ends_inside, ends_well}
use Rattle.ipc_exchange.proofs.feeding.close_connection.Goals as goal

pub returns-in-Ok-clause-closed : goal.returns-in-Ok-clause-closed
returns-in-Ok-clause-closed c = λ bytes holds. ends_well _ _ _ bytes c.args.decoder.now c.finish.new.self c.finish.result (c.finish.ensures.held bytes holds) c.in-Ok.is holds c.serve.ensures.served

pub returns-in-Err-clause-closed : goal.returns-in-Err-clause-closed
returns-in-Err-clause-closed c = λ bytes holds. ends_inside _ _ _ bytes c.args.decoder.now c.finish.new.self c.finish.result c.in-Err.fault (c.finish.ensures.held bytes holds) c.in-Err.is c.serve-in-Err.ensures.served
