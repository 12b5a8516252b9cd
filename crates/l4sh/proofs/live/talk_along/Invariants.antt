use Rattle.l4sh.proofs.live.talk_along.Given as goal

abbrev pub ghosts-talk_over-I-Ledger : goal.ghosts-talk_over-I-Ledger
ghosts-talk_over-I-Ledger g a = record { name = a.reads.name; parts = a.reads.parts }

abbrev pub ghosts-talk_over-O-Ledger : goal.ghosts-talk_over-O-Ledger
ghosts-talk_over-O-Ledger g a = record { name = a.writes.name; parts = a.writes.parts }
