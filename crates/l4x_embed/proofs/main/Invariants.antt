use Rattle.l4x_embed.proofs.main.Given as goal

abbrev pub ghosts-show-W-Ledger : goal.ghosts-show-W-Ledger
ghosts-show-W-Ledger a = record { name = a.writes.name; parts = a.writes.parts }

abbrev pub ghosts-show-C-Ledger : goal.ghosts-show-C-Ledger
ghosts-show-C-Ledger a = record { name = a.calls.name; parts = a.calls.parts }

abbrev pub ghosts-show-T-Ledger : goal.ghosts-show-T-Ledger
ghosts-show-T-Ledger a = record { name = a.takes.name; parts = a.takes.parts }
