use Rattle.l4x.proofs.obey.Given as goal

abbrev pub ghosts-start-L-Ledger : goal.ghosts-start-L-Ledger
ghosts-start-L-Ledger g a = record { name = a.reads.name; parts = a.reads.parts }

abbrev pub ghosts-start-M-Ledger : goal.ghosts-start-M-Ledger
ghosts-start-M-Ledger g a = record { name = a.writes.name; parts = a.writes.parts }
