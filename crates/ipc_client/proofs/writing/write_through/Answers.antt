use Rattle.ipc_base.proofs.Fronts.{part_is_front, whole_is_front}
use Rattle.ipc_client.proofs.writing.write_through.Goals as goal

pub returns-in-Err-clause-front : goal.returns-in-Err-clause-front
returns-in-Err-clause-front g c = part_is_front _ _ _ c.in-Err.ensures.part

pub returns-in-Err-flush-clause-front : goal.returns-in-Err-flush-clause-front
returns-in-Err-flush-clause-front g c = whole_is_front _ _ _ _ c.in_default.ensures.whole c.flush.ensures.bytes
