use Rattle.l4sh.proofs.obey_words.Given as goal

abbrev pub ghosts-obey-L-Ledger : goal.ghosts-obey-L-Ledger
ghosts-obey-L-Ledger g a = record { name = a.reads.name; parts = a.reads.parts }

abbrev pub ghosts-obey-M-Ledger : goal.ghosts-obey-M-Ledger
ghosts-obey-M-Ledger g a = record { name = a.writes.name; parts = a.writes.parts }
