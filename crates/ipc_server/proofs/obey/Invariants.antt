use Rattle.ipc_server.proofs.obey.Given as goal

abbrev pub ghosts-begin-C-Ledger : goal.ghosts-begin-C-Ledger
ghosts-begin-C-Ledger g a = record { name = a.calls.name; parts = a.calls.parts }

abbrev pub ghosts-begin-T-Ledger : goal.ghosts-begin-T-Ledger
ghosts-begin-T-Ledger g a = record { name = a.takes.name; parts = a.takes.parts }

abbrev pub ghosts-begin-C-Naming : goal.ghosts-begin-C-Naming
ghosts-begin-C-Naming g a = record { tables = a.log }
