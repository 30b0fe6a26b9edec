use Rattle.sgt_audit_cells.proofs.Tracking.{got, missed, value-decides, cell-of}
use Rattle.sgt_audit_cells.proofs.state.SiteState.has_value.Goals as goal

pub returns-in-Some : goal.returns-in-Some
returns-in-Some c ds items entries x t on =
    value-decides ds items entries c.args.self.now t c.args.place c.in-Some.cell.now x c.args.value c.has_value.result
    (got _ _ _ _ c.deref.ensures.value c.in-Some.ensures.lookup.0 c.in-Some.ensures.lookup.1) on
    (c.has_value.ensures ds items entries)

pub returns-in-None : goal.returns-in-None
returns-in-None c ds items entries x t on =
    let there = cell-of ds items entries c.args.self.now t c.args.place x on in
    absurd (missed _ _ _ there.0 c.deref.ensures.value c.in-None.ensures.lookup.0 there.1)
