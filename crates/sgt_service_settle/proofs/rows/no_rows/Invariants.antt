use Rattle.std.proofs.Common.{◌≡◌, length}
use Rattle.sgt_service_settle.proofs.Rowing.{AreBare}
use Rattle.sgt_service_settle.proofs.rows.no_rows.Given as goal

abbrev pub invariant-loop-at : goal.invariant-loop-at
invariant-loop-at g l = record { long : length l.rows.items ≡ l._at; bare : AreBare l.rows.items }
