use Rattle.ipc_server.proofs.serving.write_pens.Goals as goal

pub returns-then-not-write_next : goal.returns-then-not-write_next
returns-then-not-write_next g c = c.write_next.ensures.over c.if-not-write_next.true
