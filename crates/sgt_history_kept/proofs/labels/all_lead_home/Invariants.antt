use Rattle.sgt_history_kept.specs.Labels.{LeadHome}
use Rattle.sgt_history_kept.proofs.labels.all_lead_home.Given as goal

abbrev pub invariant-loop-place : goal.invariant-loop-place
invariant-loop-place l = LeadHome l.labels l.cycle l.place
