use Rattle.sgt_service_settle.proofs.sited.add_call.Goals as goal

pub returns-in-Decide : goal.returns-in-Decide
returns-in-Decide c = rw c.in-Decide.is (rw c.number_of.ensures at c.add_at_sites.ensures)
