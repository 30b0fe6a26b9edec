use Rattle.std.proofs.Common.{◌≡◌, ◌+◌}
use Rattle.sgt_service_locks.specs.Together.{parts_of, amount_of, begin_parts_of, begins_of}
use Rattle.sgt_service_locks.proofs.opened.merged.Given as goal

abbrev pub invariant-loop-seat : goal.invariant-loop-seat
invariant-loop-seat g l = record {
  parts : l.all.parts ≡ l.fn.all.parts + parts_of l.yielded;
  amount : l.all.amount ≡ l.fn.all.amount + amount_of l.yielded;
  begin_parts : l.beginning.parts ≡ l.fn.beginning.parts + begin_parts_of l.yielded;
  begins : l.beginning.amount ≡ l.fn.beginning.amount + begins_of l.yielded;
}
