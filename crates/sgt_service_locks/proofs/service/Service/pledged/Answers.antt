use Rattle.sgt_service_locks.specs.Undecided.{held_back, absent, unpledged}
use Rattle.sgt_service_locks.proofs.service.Service.pledged.Goals as goal

pub returns-in-Err-clause-refused : goal.returns-in-Err-clause-refused
returns-in-Err-clause-refused g c = held_back c.in-Err.fault c.in-Err.ensures.refused

pub returns-then-not-has_sites-clause-refused : goal.returns-then-not-has_sites-clause-refused
returns-then-not-has_sites-clause-refused g c =
    let there = c.has_sites.ensures.beyond c.if-not-has_sites.true in
    absent there.0 c.in_default.ensures.ok there.1 there.2

pub returns-in-Err-pledge_all-clause-refused : goal.returns-in-Err-pledge_all-clause-refused
returns-in-Err-pledge_all-clause-refused g c =
    unpledged c.in-Err-pledge_all.fault c.in_default.ensures.ok (c.has_sites.ensures.all c.if-not-has_sites.false)
    c.in-Err-pledge_all.ensures.refused
