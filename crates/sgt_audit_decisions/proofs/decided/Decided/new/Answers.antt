use Rattle.std.proofs.Common.{subst}
use Rattle.sgt_audit_decisions.specs.private.Table.{IsTableOf}
use Rattle.sgt_audit_decisions.proofs.decided.Decided.new.Goals as goal

pub invariant_of-result : goal.invariant_of-result
invariant_of-result c =
    let made = rw c.in-Some.is at c.in_ok-table.ensures.table in
    subst (λ ds. IsTableOf ds c.in-Some.table) c.decisions.ensures made
