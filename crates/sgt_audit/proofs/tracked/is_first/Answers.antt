use Rattle.sgt_names.specs.Log.{names}
use Rattle.sgt_audit.proofs.SiteStates.{placed-at, placed-none, end-first}
use Rattle.sgt_audit.proofs.tracked.is_first.Goals as goal

pub returns-in-Some : goal.returns-in-Some
returns-in-Some c ds items entries k t listed =
    let e = c.args.entry.now in
    let at = placed-at (names items) e c.args.known.now.place c.in-Some.place c.in-Some.is (k.place items entries t) in
    c.is_first.ensures ds items entries at.0 t at.1 at.2 k.ruling.number

pub returns-in-None : goal.returns-in-None
returns-in-None c ds items entries k t listed =
    end-first entries c.args.entry.now (placed-none (names items) c.args.entry.now c.args.known.now.place c.in-None.is
    listed (k.place items entries t))
