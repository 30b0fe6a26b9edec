use Rattle.std.proofs.Common.{arith}
use Rattle.std.proofs.lemmas.Option.{slice_get_within}
use Rattle.sgt_service_settle.proofs.Tracking.{in_order}
use Rattle.sgt_service_settle.proofs.deeds.are_in_order.Goals as goal

pub returns : goal.returns
returns c =
    λ yes. in_order c.args.deeds.now (λ k d e first second. c.loop-i.invariant k d e (let low =
    slice_get_within c.args.deeds.now _ e second in omega (arith, low, c.loop-i-test.false, c.loop-i.auto.i)) first
    second)
