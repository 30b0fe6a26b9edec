use Rattle.std.proofs.Common.{◌≤◌, All, take}
use Rattle.sgt_bundle.specs.Certificate.{decided_tx}
use Rattle.sgt_audit_decisions.proofs.table.greatest.Given as goal

abbrev pub invariant-loop-decision : goal.invariant-loop-decision
invariant-loop-decision l = All (λ d. decided_tx d ≤ l.most) (take l.decision-index l.decisions)
