use Rattle.std.proofs.Common.{arith}
use Rattle.sgt_certify.proofs.Reached.{front-short}
use Rattle.sgt_certify.proofs.taking.whole_lines.Goals as goal

pub returns-in-Some-clause-short : goal.returns-in-Some-clause-short
returns-in-Some-clause-short c =
    front-short c.args.bytes.now c.min-most.result c.in-Some.last (omega (arith, c.min-most.ensures))
    c.in-Some.ensures.0.high c.in-Some.ensures.1
