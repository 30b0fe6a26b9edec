use Rattle.sgt_service_tests.proofs.windows.left_active.Given as goal

abbrev pub ghosts-stepped-L-Ledger : goal.ghosts-stepped-L-Ledger
ghosts-stepped-L-Ledger g a = record { name = a.blanks.decisions.name; parts = a.blanks.decisions.parts }

abbrev pub ghosts-stepped-L-Ledgers : goal.ghosts-stepped-L-Ledgers
ghosts-stepped-L-Ledgers g a = record { begins = a.blanks.begins.name }
