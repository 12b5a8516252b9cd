use Rattle.l4sh_files.proofs.migrating.migrate_file.Given as goal

abbrev pub ghosts-migrate_over : goal.ghosts-migrate_over
ghosts-migrate_over g a = record { name = a.writes.name; parts = a.writes.parts }
