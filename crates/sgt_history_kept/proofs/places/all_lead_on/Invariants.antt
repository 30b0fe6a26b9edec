use Rattle.std.proofs.Common.{All, take}
use Rattle.sgt_history_kept.specs.Placed.{LeadsOn}
use Rattle.sgt_history_kept.proofs.places.all_lead_on.Given as goal

abbrev pub invariant-loop-at : goal.invariant-loop-at
invariant-loop-at l = All (LeadsOn l.places) (take l.at l.edges)
