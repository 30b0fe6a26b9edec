use Rattle.std.proofs.Common.{refl}
use Rattle.sgt_audit_cells.proofs.Tracking.{begun}
use Rattle.sgt_audit_cells.proofs.state.SiteState.begin.Goals as goal

pub returns-clause-tracks : goal.returns-clause-tracks
returns-clause-tracks c ds ready =
    begun ds c.args.section c.args.self.now _ ready c.clear-2.ensures.length c.clear-2.ensures.fresh
    c.clear.ensures.items c.clear-2.ensures.none refl refl
