use Rattle.std.proofs.Common.{◌∷◌, length, ap, subst, arith}
use Rattle.std.proofs.lemmas.List.{length-append}
use Rattle.sgt_audit.specs.Faults.{whole}
use Rattle.sgt_certify_faults.specs.private.Reading.{HasRead}
use Rattle.sgt_certify_faults.proofs.ReadLines.{behind-first, line-comes}
use Rattle.sgt_certify_faults.proofs.first.read_lines.Goals as goal

pub lines-init : goal.lines-init
lines-init c = (omega arith, omega arith, c.requires.read)

pub lines-preserved : goal.lines-preserved
lines-preserved c =
    let inv = c.lines.invariant in
    let split = c.in-Some.ensures.some in
    let next = rw c.in_default-2.is at (c.in_ok-fault.ensures _ _ _ _ c.requires.asked inv.2 split.1) in (
      omega (arith, inv.0),
      omega (arith, inv.1, ap length split.1, length-append c.in-Some.next.now (10 ∷ c.in-Some.more.now)),
      subst (λ n. HasRead c.args.second c.args.decided.now.decisions c.args.bytes.now n c.next.new.self
          c.in-Some.more.now) (omega (arith, inv.0)) next,
    )

pub returns-in-Some-2-clause-fault : goal.returns-in-Some-2-clause-fault
returns-in-Some-2-clause-fault c more =
    let inv = c.lines.invariant in
    let split = c.in-Some.ensures.some in
    let follows = rw c.in-Some-2.is at (c.in_ok-fault.ensures _ _ _ _ c.requires.asked inv.2 split.1) in
    behind-first c.args.second c.args.bytes.now more _ follows.0 _ follows.1 (whole c.in-Some.next.now)
    c.in-Some-2.fault
    (line-comes _ c.in-Some.next.now c.in-Some.more.now more split.0 split.1) follows.2 c.lines.line
    (omega (arith, inv.0))

pub returns-clause-left : goal.returns-clause-left
returns-clause-left c = (c.in_default.ensures.none, c.lines.invariant.0, c.lines.invariant.2)
