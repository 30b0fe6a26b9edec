use Rattle.std.proofs.Common.{refl, arith, suc}
use Rattle.std.proofs.lemmas.Option.{slice_get_within}
use Rattle.sgt_service.proofs.Ordering.{rises_throughout}
use Rattle.sgt_service.proofs.settled.rise.Goals as goal

pub returns : goal.returns
returns c = (
  λ told. rises_throughout c.args.dones.now (λ k d e first second. c.loop-i.invariant k d e (let low =
      slice_get_within c.args.dones.now (suc k) e second in omega (arith, low, c.loop-i-test.false, c.loop-i.auto.i))
      first second),
  λ all. refl,
)
