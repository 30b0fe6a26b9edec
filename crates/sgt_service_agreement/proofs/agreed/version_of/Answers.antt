use Rattle.std.proofs.Common.{◌∙◌, ap, length}
use Rattle.sgt_edges.proofs.Unlisted.{versions, no_versions}
use Rattle.sgt_service_agreement.proofs.agreed.version_of.Goals as goal

pub returns-in-Ok : goal.returns-in-Ok
returns-in-Ok c = ap length c.in-Ok.ensures.ok ∙ versions c.args.site.now c.writers.ensures.site c.args.item

pub returns-in-Err : goal.returns-in-Err
returns-in-Err c = no_versions c.args.site.now c.writers.ensures.site c.args.item c.in-Err.ensures.refused.1
