use Rattle.ipc_session.proofs.CauseLemmas.{fault_ends, three_ends}
use Rattle.ipc_session.proofs.ReadLemmas.{ends_by, finished_bad, finished_ok, nothing_left}
use Rattle.ipc_session.proofs.reading.end_input.Goals as goal

pub returns-in-Ok-clause-calls : goal.returns-in-Ok-clause-calls
returns-in-Ok-clause-calls g c = λ log bytes left input holds served at_end. (
  c.args.stage,
  nothing_left _ _ _ _ _ served (finished_ok left _ _ _ (c.in-Ok.ensures.held left holds)),
)

pub returns-in-On-clause-calls : goal.returns-in-On-clause-calls
returns-in-On-clause-calls g c = absurd (fault_ends c.args.stage _ _ _ c.requires c.in-On.ensures.2)

pub returns-in-Over-clause-calls : goal.returns-in-Over-clause-calls
returns-in-Over-clause-calls g c = λ log bytes left input holds served at_end.
    ends_by _ _ _ _ _ (finished_bad _ _ _ _ bytes left _ _ _ input _ (c.in-Err.ensures.held left holds) served at_end c.in-Over.ensures)

pub returns-in-Over-clause-only : goal.returns-in-Over-clause-only
returns-in-Over-clause-only g c = (three_ends c.args.stage _ _ _ c.requires c.in-Over.ensures.2).0

pub returns-in-Over-clause-never : goal.returns-in-Over-clause-never
returns-in-Over-clause-never g c = (three_ends c.args.stage _ _ _ c.requires c.in-Over.ensures.2).1
