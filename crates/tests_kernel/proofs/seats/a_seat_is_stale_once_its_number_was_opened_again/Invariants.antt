use Rattle.tests_kernel.proofs.seats.a_seat_is_stale_once_its_number_was_opened_again.Given as goal

abbrev pub ghosts-stale_seats-C-Ledger : goal.ghosts-stale_seats-C-Ledger
ghosts-stale_seats-C-Ledger g a = record { name = a.calls.name; parts = a.calls.parts }

abbrev pub ghosts-stale_seats-T-Ledger : goal.ghosts-stale_seats-T-Ledger
ghosts-stale_seats-T-Ledger g a = record { name = a.takes.name; parts = a.takes.parts }

abbrev pub ghosts-stale_seats-C-Naming : goal.ghosts-stale_seats-C-Naming
ghosts-stale_seats-C-Naming g a = record { tables = a.log }
