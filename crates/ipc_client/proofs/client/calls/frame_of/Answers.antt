use Rattle.ipc_client.proofs.ClientLemmas.{made_fault, made_fits, made_ok}
use Rattle.ipc_client.proofs.client.calls.frame_of.Goals as goal

pub returns-clause-frame : goal.returns-clause-frame
returns-clause-frame c = rw (← c.message.view_is, ← c.buffers.view_is) (made_ok _ _ _ c.new.ensures.frame c.new.ensures.fault)

pub returns-clause-fits : goal.returns-clause-fits
returns-clause-fits c = rw (← c.message.view_is, ← c.buffers.view_is) (made_fits _ _ _ c.new.ensures.frame c.new.ensures.fault)

pub returns-clause-fault : goal.returns-clause-fault
returns-clause-fault c = rw (← c.message.view_is, ← c.buffers.view_is) (made_fault _ _ _ c.new.ensures.frame c.new.ensures.fault)
