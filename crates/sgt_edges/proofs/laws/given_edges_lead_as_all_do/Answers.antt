use Rattle.sgt_edges.proofs.Leading.{lead-alike}
use Rattle.sgt_edges.proofs.laws.given_edges_lead_as_all_do.Goals as goal

pub returns : goal.returns
returns c touched me gs all from to = lead-alike touched me gs all from to
