use Rattle.tests_kernel.proofs.meetings.a_history_of_which_all_may_go_never_fills.Given as goal

abbrev pub ghosts-never_fills-C-Ledger : goal.ghosts-never_fills-C-Ledger
ghosts-never_fills-C-Ledger g a = record { name = a.calls.name; parts = a.calls.parts }

abbrev pub ghosts-never_fills-T-Ledger : goal.ghosts-never_fills-T-Ledger
ghosts-never_fills-T-Ledger g a = record { name = a.takes.name; parts = a.takes.parts }

abbrev pub ghosts-never_fills-C-Naming : goal.ghosts-never_fills-C-Naming
ghosts-never_fills-C-Naming g a = record { tables = a.log }
