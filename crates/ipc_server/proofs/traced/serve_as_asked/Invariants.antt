use Rattle.ipc_server.proofs.traced.serve_as_asked.Given as goal

abbrev pub ghosts-serve_traced : goal.ghosts-serve_traced
ghosts-serve_traced g a = record { name = a.writes.name; parts = a.writes.parts }
