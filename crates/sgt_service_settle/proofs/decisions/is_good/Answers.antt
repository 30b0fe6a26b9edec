use Rattle.sgt_names.proofs.Lists.{element_at}
use Rattle.sgt_service_settle.proofs.decisions.is_good.Goals as goal

pub returns-in-Some : goal.returns-in-Some
returns-in-Some c =
    let h = c.in-Some.ensures.lookup in
    let here = element_at c.args.verdicts.now c.args.ticket.number c.in-Some.verdict.now h.3.0 h.1 in
    let k = c.requires c.args.ticket c.in-Some.verdict.now here in
    (λ told. k.1 (c.is_told.ensures.0 told), λ good. c.is_told.ensures.1 (k.0 good))
