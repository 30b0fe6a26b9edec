use Rattle.std.proofs.Common.{◌≡◌, All, arith, length, map, rules, subst, sym}
use Rattle.std.specs.List.{range_with_len}
use Rattle.std.proofs.lemmas.List.Elements.{All-push}
use Rattle.sgt_service_locks.specs.Seats.{IsNew, HasBegunNone}
use Rattle.sgt_service_locks.proofs.Numbering.{numbers_more}
use Rattle.sgt_service_locks.proofs.service.new_seats.Goals as goal

pub loop-number-preserved : goal.loop-number-preserved
loop-number-preserved g c = record {
  rest = search rules;
  beginning = search rules;
  len = search rules;
  each = subst (All (IsNew c.args.sites)) (sym c.in_ok-push.ensures.items)
      (All-push (IsNew c.args.sites) c.loop-number.seats.items _ c.loop-number.invariant.each (search rules));
  begins = subst (All HasBegunNone) (sym c.in_ok-push.ensures.items)
      (All-push HasBegunNone c.loop-number.seats.items _ c.loop-number.invariant.begins (search rules));
  numbers = subst (λ ss. map (λ s. s.number) ss ≡ range_with_len 0 (length ss)) (sym c.in_ok-push.ensures.items)
      (numbers_more c.loop-number.seats.items _ c.loop-number.invariant.numbers
      (omega (arith, c.loop-number.invariant.len, c.loop-number.seats.ok.0)));
}

pub returns-clause-numbers : goal.returns-clause-numbers
returns-clause-numbers g c =
    subst (λ n. map (λ s. s.number) c.loop-number.seats.items ≡ range_with_len 0 n)
    (omega (arith, c.loop-number.invariant.len, c.loop-number.seats.ok.0, c.loop-number-test.false))
    c.loop-number.invariant.numbers
