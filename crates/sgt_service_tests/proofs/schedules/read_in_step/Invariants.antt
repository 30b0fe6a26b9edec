use Rattle.sgt_service_tests.proofs.schedules.read_in_step.Given as goal

abbrev pub ghosts-ran-L-Ledger : goal.ghosts-ran-L-Ledger
ghosts-ran-L-Ledger g a = record { name = a.blanks.decisions.name; parts = a.blanks.decisions.parts }

abbrev pub ghosts-ran-L-Ledgers : goal.ghosts-ran-L-Ledgers
ghosts-ran-L-Ledgers g a = record { begins = a.blanks.begins.name }
