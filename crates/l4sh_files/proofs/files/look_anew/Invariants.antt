use Rattle.l4sh_files.proofs.files.look_anew.Given as goal

abbrev pub ghosts-look_over : goal.ghosts-look_over
ghosts-look_over g a = record { name = a.reads.name; parts = a.reads.parts }
