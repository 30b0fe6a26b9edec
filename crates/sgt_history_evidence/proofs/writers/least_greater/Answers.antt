use Rattle.std.proofs.Common.{◌≡◌, length, subst, arith}
use Rattle.sgt_history_evidence.specs.Writers.{TellsLeast}
use Rattle.sgt_history_evidence.proofs.writers.least_greater.Goals as goal

pub returns : goal.returns
returns c =
    let end : c.loop-at.at ≡ length c.args.operations.now =
    omega (arith, c.loop-at-test.false, c.loop-at.auto.at-end) in
    subst (λ n. TellsLeast c.args.operations.now c.args.item c.args.version n c.loop-at.least) end c.loop-at.invariant
