use Rattle.ipc_session.proofs.WriteLemmas.{wrote_gone, wrote_given, wrote_given_part}
use Rattle.ipc_session.proofs.writing.write_next.Goals as goal

pub returns-in_default-clause-text : goal.returns-in_default-clause-text
returns-in_default-clause-text g c = wrote_gone _ _ _ c.next-next.result c.next-next.ensures.told (rw c.in_default.is at c.encoder_of.ensures)

pub returns-in-Ok-clause-text : goal.returns-in-Ok-clause-text
returns-in-Ok-clause-text g c = wrote_given _ _ _ _ c.next-next.result c.in-Some.encoder c.next-next.ensures.told c.in-Some.ensures c.in-Ok.ensures.whole

pub returns-in-Err-clause-text : goal.returns-in-Err-clause-text
returns-in-Err-clause-text g c = wrote_given_part _ _ _ _ _ c.next-next.result c.in-Some.encoder c.next-next.ensures.told c.in-Some.ensures c.broke.ensures.told c.in-Err.ensures.part
