use Rattle.tests_kernel.proofs.meetings.two_threads_of_the_machine_meet_ten_thousand_times.Given as goal

abbrev pub ghosts-meetings-C-Ledger : goal.ghosts-meetings-C-Ledger
ghosts-meetings-C-Ledger g a = record { name = a.calls.name; parts = a.calls.parts }

abbrev pub ghosts-meetings-T-Ledger : goal.ghosts-meetings-T-Ledger
ghosts-meetings-T-Ledger g a = record { name = a.takes.name; parts = a.takes.parts }

abbrev pub ghosts-meetings-C-Naming : goal.ghosts-meetings-C-Naming
ghosts-meetings-C-Naming g a = record { tables = a.log }
