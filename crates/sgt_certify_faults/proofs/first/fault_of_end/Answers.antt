use Rattle.std.proofs.Common.{arith, subst}
use Rattle.sgt_audit.specs.Faults.{last}
use Rattle.sgt_certify_faults.specs.Faults.{GoesOn}
use Rattle.sgt_certify_faults.proofs.ReadLines.{end-comes, first-end, first-long, long-next}
use Rattle.sgt_certify_faults.proofs.first.fault_of_end.Goals as goal
use Rattle.sgt_certify_faults.proofs.first.fault_of_end.Goals.{else-all-via-then-all+else-text-le-MAX_LINE, else-all-via-else-all}

pub returns-then-text-le-MAX_LINE : goal.returns-then-text-le-MAX_LINE
returns-then-text-le-MAX_LINE c none more goes =
    first-end c.args.text.now more none (subst (λ a. GoesOn a more) c.if-all.true goes)
    (omega (arith, c.if-text-le-MAX_LINE.true))

pub returns-else-all : goal.returns-else-all
returns-else-all c none more goes =
    elim c.else-all.branch [
      | else-all-via-then-all+else-text-le-MAX_LINE w ↦
          first-long c.args.text.now more none (last c.args.text.now)
          (end-comes c.args.text.now more none (subst (λ a. GoesOn a more) w.if-all.true goes))
          (omega (arith, w.if-text-le-MAX_LINE.false))
      | else-all-via-else-all w ↦
          let next = long-next c.args.text.now more none (subst (λ a. GoesOn a more) w.if-all.false goes) in
          first-long c.args.text.now more none next.0 next.1 next.2
    ]
