use Rattle.sgt_service.proofs.engine.answer_to.Given as goal

abbrev pub ghosts-settled_run-L-Ledger : goal.ghosts-settled_run-L-Ledger
ghosts-settled_run-L-Ledger g a = record { name = a.blanks.decisions.name; parts = a.blanks.decisions.parts }

abbrev pub ghosts-settled_run-L-Ledgers : goal.ghosts-settled_run-L-Ledgers
ghosts-settled_run-L-Ledgers g a = record { begins = a.blanks.begins.name }
