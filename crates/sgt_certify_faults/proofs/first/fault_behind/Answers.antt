use Rattle.std.proofs.Common.{arith, subst}
use Rattle.sgt_audit.specs.Faults.{last}
use Rattle.sgt_audit.specs.Reading.{lines_read}
use Rattle.sgt_certify_faults.specs.Faults.{GoesOn}
use Rattle.sgt_certify_faults.proofs.Broken.{end-judged}
use Rattle.sgt_certify_faults.proofs.ReadLines.{behind-first, end-comes, ends-faultless, ends-sound, long-next}
use Rattle.sgt_certify_faults.proofs.first.fault_behind.Goals as goal

pub returns-then-not-all-clause-found : goal.returns-then-not-all-clause-found
returns-then-not-all-clause-found c more goes =
    let left = rw c.in-Ok.is at c.in_ok-left.ensures.left in
    let h = left.2 in
    let next = long-next _ more left.0 (subst (λ a. GoesOn a more) c.if-not-all.true goes) in
    behind-first c.args.second c.args.bytes.now more _ h.sections _ h.read next.0 _ next.1
    (c.too_long-fault.ensures h.sections c.args.second next.0 h.read.sites h.read.begun h.place next.2)
    c.in-Ok.left.line (omega (arith, left.1))

pub returns-in-Some-clause-found : goal.returns-in-Some-clause-found
returns-in-Some-clause-found c more goes =
    let left = rw c.in-Ok.is at c.in_ok-left.ensures.left in
    let h = left.2 in
    behind-first c.args.second c.args.bytes.now more _ h.sections _ h.read (last _) _
    (end-comes _ more left.0 (subst (λ a. GoesOn a more) c.if-not-all.false goes))
    (c.in-Some.ensures.some h.sections c.args.second h.read.sites h.read.begun h.place) c.in-Ok.left.line
    (omega (arith, left.1))

pub returns-clause-none : goal.returns-clause-none
returns-clause-none c =
    let left = rw c.in-Ok.is at c.in_ok-left.ensures.left in
    let h = left.2 in
    let ends = c.in-None.ensures.none h.sections h.read.sites h.read.begun h.place in (
      c.if-not-all.false,
      ends-faultless c.args.second c.args.bytes.now _ h.sections _ h.read ends.0
          (end-judged c.args.second (lines_read h.sections) ends.1.0 ends.1.1),
      ends-sound c.args.second c.args.bytes.now _ h.sections _ ends.1.0 h.read ends.0 ends.1.1,
    )
