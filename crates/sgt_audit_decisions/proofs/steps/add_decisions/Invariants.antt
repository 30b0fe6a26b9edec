use Rattle.std.proofs.Common.{[], take}
use Rattle.sgt_audit_decisions.specs.Steps.{edges_in}
use Rattle.sgt_audit_decisions.specs.private.Grouped.{AreGrouped}
use Rattle.sgt_audit_decisions.proofs.steps.add_decisions.Given as goal

abbrev pub invariant-loop-decision : goal.invariant-loop-decision
invariant-loop-decision l = AreGrouped [] l.initial.groups
    → AreGrouped (edges_in (take l.decision-index l.decisions)) l.groups
