use Rattle.sgt_names.specs.Log.{names}
use Rattle.sgt_audit.proofs.Least.{asked-of, told-of}
use Rattle.sgt_audit.proofs.SiteStates.{placed-at, placed-none, end-in_rank}
use Rattle.sgt_audit.proofs.tracked.is_in_rank.Goals as goal

pub returns-in-Some : goal.returns-in-Some
returns-in-Some c ds items entries once are k t listed =
    let e = c.args.entry.now in
    let at = placed-at (names items) e c.args.known.now.place c.in-Some.place c.in-Some.is (k.place items entries t) in
    told-of c.args.rules _ _ c.in-Certified.is
    (c.is_in_rank.ensures ds items entries at.0 once (asked-of c.args.rules _ c.in-Certified.is are) t at.1 at.2
    k.ruling.rank)

pub returns-in-None : goal.returns-in-None
returns-in-None c ds items entries once are k t listed =
    told-of c.args.rules _ _ c.in-Certified.is
    (end-in_rank ds entries c.args.entry.now
    (placed-none (names items) c.args.entry.now c.args.known.now.place c.in-None.is listed (k.place items entries t)))
