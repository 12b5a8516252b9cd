use Rattle.tests_kernel.proofs.boxes.a_pen_writes_outcomes_before_answers_and_ends_when_its_box_is_shut.Given as goal

abbrev pub ghosts-boxes-C-Ledger : goal.ghosts-boxes-C-Ledger
ghosts-boxes-C-Ledger g a = record { name = a.calls.name; parts = a.calls.parts }

abbrev pub ghosts-boxes-T-Ledger : goal.ghosts-boxes-T-Ledger
ghosts-boxes-T-Ledger g a = record { name = a.takes.name; parts = a.takes.parts }

abbrev pub ghosts-boxes-C-Naming : goal.ghosts-boxes-C-Naming
ghosts-boxes-C-Naming g a = record { tables = a.log }
