use Rattle.sgt_audit_cells.proofs.Tracking.{order-decides}
use Rattle.sgt_audit_cells.proofs.state.SiteState.is_in_order.Goals as goal

pub returns-else-not-is_end : goal.returns-else-not-is_end
returns-else-not-is_end c ds items entries once t by =
    let d = order-decides ds items entries c.args.self.now t c.args.entry.now c.args.number once by
    (c.is_end.ensures.0 c.if-not-is_end.false) in
    (λ h. d.0 (c.is_up_to.ensures.0 h), λ all. c.is_up_to.ensures.1 (d.1 all))
