use Rattle.std.specs.Ordering.{nat_cmp}
use Rattle.std.specs.BTreeMap.{get}
use Rattle.sgt_audit_decisions.proofs.Tables.{HasFirst}
use Rattle.sgt_audit_decisions.proofs.table.fill_sparse.Given as goal

abbrev pub invariant-loop-number : goal.invariant-loop-number
invariant-loop-number l = HasFirst l.decisions l.number (get nat_cmp l.places)
