use Rattle.sgt_audit.proofs.NextStage.{complete-all}
use Rattle.sgt_audit.proofs.kept.Kept.is_complete.Goals as goal

pub returns : goal.returns
returns c s (b, before, h, stage) =
    let all = complete-all c.args.self.now b before s h.means stage in
    let done = c.is_complete.ensures b h.means.begun h.stands.place in
    (λ e. all.1 (done.0 e), λ a. done.1 (all.0 a))
