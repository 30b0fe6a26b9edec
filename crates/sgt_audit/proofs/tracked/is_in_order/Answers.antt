use Rattle.sgt_audit.proofs.Least.{told-of}
use Rattle.sgt_audit.proofs.SiteStates.{suiting-at, suiting-none, order-free}
use Rattle.sgt_audit.proofs.tracked.is_in_order.Goals as goal

pub returns-in-Some : goal.returns-in-Some
returns-in-Some c ds items entries once k t =
    told-of c.args.rules _ _ c.in-Certified.is
    (c.is_in_order.ensures ds items entries once t
    (suiting-at ds c.args.entry.now c.args.known.now.ruling.suiting c.in-Some.number c.in-Some.is k.ruling.suiting))

pub returns-in-None : goal.returns-in-None
returns-in-None c ds items entries once k t =
    told-of c.args.rules _ _ c.in-Certified.is
    (order-free ds entries c.args.entry.now
    (suiting-none ds c.args.entry.now c.args.known.now.ruling.suiting c.in-None.is k.ruling.suiting))
