use Rattle.std.proofs.Common.{refl}
use Rattle.sgt_audit_cells.proofs.Tracking.{ended-decides}
use Rattle.sgt_audit_cells.proofs.state.SiteState.have_all_ended.Goals as goal

pub returns : goal.returns
returns c ds items entries t = ended-decides ds items entries c.args.self.now t _ refl
