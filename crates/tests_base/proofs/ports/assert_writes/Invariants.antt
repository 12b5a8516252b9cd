use Rattle.tests_base.proofs.ports.assert_writes.Given as goal

abbrev pub ghosts-write_and_flush : goal.ghosts-write_and_flush
ghosts-write_and_flush g a = record { name = a.blank.name; parts = a.blank.parts }
