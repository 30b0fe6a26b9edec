use Rattle.std.proofs.Common.{◌≡◌, [], length, All}
use Rattle.sgt_audit_decisions.proofs.steps.fresh.Given as goal

abbrev pub invariant-loop : goal.invariant-loop
invariant-loop l = (length l.groups.items ≡ l.counter) × All (λ g. g.edges.items ≡ []) l.groups.items
