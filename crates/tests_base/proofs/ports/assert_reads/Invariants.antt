use Rattle.tests_base.proofs.ports.assert_reads.Given as goal

abbrev pub ghosts-two_reads : goal.ghosts-two_reads
ghosts-two_reads g a = record { name = a.blank.name; parts = a.blank.parts }
