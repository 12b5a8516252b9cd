use Rattle.ipc_tracing.proofs.trace_files.TraceFiles.follow_next.Given as goal

abbrev pub ghosts-follow_part : goal.ghosts-follow_part
ghosts-follow_part g a = record { name = a.writes.name; parts = a.writes.parts }
