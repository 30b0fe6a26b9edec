use Rattle.std.proofs.Common.{arith}
use Rattle.sgt_history_kept.proofs.rising.stands_in.Goals as goal
use Rattle.sgt_history_kept.proofs.rising.stands_in.Goals.{else-behind-gt0-via-then-behind-gt0+else-number_of_line-ran, else-behind-gt0-via-else-behind-gt0, else-behind-most-via-then-behind-most+else-number_of_line-left, else-behind-most-via-else-behind-most}

pub returns : goal.returns
returns c = λ yes. record {
  behind = c.first_behind-behind.result;
  few = c.if-behind-begins.false;
  ended = λ some. elim c.else-behind-gt0.branch [
    | else-behind-gt0-via-then-behind-gt0+else-number_of_line-ran w ↦
        omega (arith, w.number_of_line.ensures, w.if-number_of_line-ran.false)
    | else-behind-gt0-via-else-behind-gt0 w ↦ absurd (omega (arith, some, w.if-behind-gt0.false))
  ];
  left_is = λ within. elim c.else-behind-most.branch [
    | else-behind-most-via-then-behind-most+else-number_of_line-left w ↦
        omega (arith, w.number_of_line-then-behind-most.ensures, w.if-number_of_line-left.false)
    | else-behind-most-via-else-behind-most w ↦ absurd (omega (arith, within, w.if-behind-most.false))
  ];
  begin = c.first_from-begin.result;
  within = c.if-begin-begins.false;
  began = omega (arith, c.number_of_line-else-begin-begins.ensures, c.if-number_of_line-ran-2.false);
  right_is = omega (arith, c.number_of_line-2.ensures, c.if-number_of_line-right.false);
}
