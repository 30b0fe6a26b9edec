use Rattle.std.proofs.Common.{◌≡◌, ◌+◌, All, length, map, vec_len}
use Rattle.std.specs.List.{range_with_len}
use Rattle.sgt_service_locks.specs.Seats.{IsNew, HasBegunNone}
use Rattle.sgt_service_locks.proofs.service.new_seats.Given as goal

abbrev pub invariant-loop-number : goal.invariant-loop-number
invariant-loop-number g l = record {
  rest : (l.rest.parts + l.number ≡ l.count) × (l.rest.amount ≡ 0);
  beginning : (l.beginning.parts + l.number ≡ l.count) × (l.beginning.amount ≡ 0);
  len : vec_len l.seats ≡ l.number;
  each : All (IsNew l.sites) l.seats.items;
  begins : All HasBegunNone l.seats.items;
  numbers : map (λ s. s.number) l.seats.items ≡ range_with_len 0 (length l.seats.items);
}
