use Rattle.std.proofs.Common.{◌≡◌, None, get_or, length}
use Rattle.sgt_audit_decisions.proofs.Tables.{HasFirst}
use Rattle.sgt_audit_decisions.proofs.table.fill_dense.Given as goal

abbrev pub invariant-loop-number : goal.invariant-loop-number
invariant-loop-number l = record {
  room : length l.places.items ≡ length l.initial.places.items;
  first : HasFirst l.decisions l.number (λ tx. get_or l.places.items tx None);
}
