use Rattle.ipc_tracing.proofs.part_answer.write_part.Given as goal

abbrev pub ghosts-write_counted : goal.ghosts-write_counted
ghosts-write_counted g a = record { name = a.writes.name; parts = a.writes.parts }
