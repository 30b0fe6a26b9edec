use Rattle.sgt_service_tests.proofs.meddling.told_otherwise.Given as goal

abbrev pub ghosts-ended-L-Ledger : goal.ghosts-ended-L-Ledger
ghosts-ended-L-Ledger g a = record { name = a.blanks.decisions.name; parts = a.blanks.decisions.parts }

abbrev pub ghosts-ended-L-Ledgers : goal.ghosts-ended-L-Ledgers
ghosts-ended-L-Ledgers g a = record { begins = a.blanks.begins.name }
