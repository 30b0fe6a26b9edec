use Rattle.sgt_names.proofs.Lists.{element_at}
use Rattle.sgt_service_settle.proofs.tallies.tally.Goals as goal

pub returns-in-Some : goal.returns-in-Some
returns-in-Some c =
    let h = c.in-Some.ensures.lookup in
    let here = element_at c.args.tallies.now c.args.number c.in-Some.tally.now h.3.0 h.1 in
    c.requires c.args.number c.in-Some.tally.now here
