use Rattle.sgt_audit_cells.proofs.Ranked.{passes-decides}
use Rattle.sgt_audit_cells.proofs.cell.is_in_rank.Goals as goal

pub returns : goal.returns
returns c ds items entries once are is on by =
    let d = passes-decides ds items entries c.args.cell.now once are is c.args.entry.now c.args.rank on by in
    (λ h. d.0 (c.passes.ensures.0 h), λ h. c.passes.ensures.1 (d.1 h))
