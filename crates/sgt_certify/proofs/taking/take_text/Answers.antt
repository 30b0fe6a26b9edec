use Rattle.sgt_certify.proofs.taking.take_text.Goals as goal

pub returns-in-All-clause-taken : goal.returns-in-All-clause-taken
returns-in-All-clause-taken g c = rw c.in-All.is at c.in_ok-take_lines.ensures.taken

pub returns-in-Long-clause-taken : goal.returns-in-Long-clause-taken
returns-in-Long-clause-taken g c = rw c.in-Long.is at c.in_ok-take_lines.ensures.taken

pub returns-clause-taken : goal.returns-clause-taken
returns-clause-taken g c = rw c.in-Fault.is at c.in_ok-take_lines.ensures.taken
