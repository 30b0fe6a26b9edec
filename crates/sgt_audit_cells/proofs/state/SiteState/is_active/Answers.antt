use Rattle.std.proofs.Common.{sym, subst, IsTrue}
use Rattle.std.specs.Prelude.{◌↔◌}
use Rattle.sgt_names.specs.Entry.{IsEnd}
use Rattle.sgt_audit_cells.specs.Records.{Did}
use Rattle.sgt_audit_cells.proofs.Tracking.{record-of, active-decides}
use Rattle.sgt_audit_cells.proofs.state.SiteState.is_active.Goals as goal

pub returns : goal.returns
returns c ds items entries tx t by =
    let there = record-of ds items entries c.args.self.now t c.args.number tx by in
    active-decides ds items entries c.args.self.now t tx c.has_ended.result
    (subst (λ b. IsTrue b ↔ Did entries tx IsEnd) (sym (c.has_ended.ensures there.0 there.1)) there.2.ended)
