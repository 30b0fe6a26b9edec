use Rattle.std.proofs.Common.{ℕ, arith, inl, inr}
use Rattle.std.proofs.lemmas.Bool.{cases_lt}
use Rattle.sgt_history.specs.History.{closed_of}
use Rattle.sgt_history_evidence.specs.Values.{GivesAt}
use Rattle.sgt_history_evidence.proofs.Cutting.{line-within}
use Rattle.sgt_history_evidence.proofs.Scanning.{none-next}
use Rattle.sgt_history_evidence.proofs.values.first_given.Goals as goal

pub returns-in-Some-clause-some : goal.returns-in-Some-clause-some
returns-in-Some-clause-some c = record {
  here = c.in-Some.ensures.some;
  first = λ line place gives. elim (cases_lt line c.loop-line.line) [
    | inl lt ↦ absurd (c.loop-line.invariant line lt place gives)
    | inr le ↦ le
  ];
}

pub loop-line-preserved : goal.loop-line-preserved
loop-line-preserved c line lt place gives =
    none-next (λ n. (p : ℕ) × GivesAt (closed_of c.args.history.now) c.args.item c.args.version n p) c.loop-line.line
    (λ k less (p, g). c.loop-line.invariant k less p g) (λ (p, g). c.in_default.ensures.none p g) line lt (place, gives)

pub returns-clause-none : goal.returns-clause-none
returns-clause-none c line place gives =
    let lt = line-within c.args.history.now.lines.items c.args.history.now.operations.items line gives.t
    gives.committed.0 in
    c.loop-line.invariant line (omega (arith, lt, c.loop-line-test.false)) place gives
