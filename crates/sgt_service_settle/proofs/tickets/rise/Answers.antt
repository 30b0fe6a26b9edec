use Rattle.std.proofs.Common.{refl, arith, suc}
use Rattle.std.proofs.lemmas.Option.{slice_get_within}
use Rattle.sgt_service_settle.proofs.Rising.{rises_throughout}
use Rattle.sgt_service_settle.proofs.tickets.rise.Goals as goal

pub returns : goal.returns
returns c = (
  λ told. rises_throughout c.args.tickets.now (λ k t u first second. c.loop-i.invariant k t u (let low =
      slice_get_within c.args.tickets.now (suc k) u second in
      omega (arith, low, c.loop-i-test.false, c.loop-i.auto.i)) first second),
  λ all. refl,
)
