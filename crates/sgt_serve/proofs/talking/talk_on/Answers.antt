use Rattle.std.proofs.Common.{arith, ◌∙◌, refl}
use Rattle.sgt_pipe.proofs.Going.{hears_none, hears_then, speaks_none, speaks_then}
use Rattle.sgt_serve.proofs.Stops.{comes_at}
use Rattle.sgt_serve.proofs.Ways.{hears_at, speaks_at}
use Rattle.sgt_names.proofs.Elements.{none-unless_some}
use Rattle.sgt_serve.proofs.talking.talk_on.Goals as goal

pub lines-init : goal.lines-init
lines-init g c = record {
  comes = λ sites before h. h;
  hears = hears_none _ _ _;
  speaks = speaks_none _ _ _;
  asks = refl;
}

pub lines-preserved : goal.lines-preserved
lines-preserved g c = record {
  comes = λ sites before h. comes_at _ _ _ c.in_default.not-Some c.go_on.ensures.stops sites before
      (c.lines.invariant.comes sites before h);
  hears = hears_then _ _ _ _ _ _ _ _ _ c.lines.invariant.hears
      (hears_at _ _ _ _ _ _ _ _ c.in_default.not-Some c.go_on.ensures.hears);
  speaks = speaks_then _ _ _ _ _ _ _ _ _ c.lines.invariant.speaks
      (speaks_at _ _ _ _ _ _ _ c.in_default.not-Some c.go_on.ensures.speaks);
  asks = c.go_on.ensures.asks ∙ c.lines.invariant.asks;
}

pub lines-smaller : goal.lines-smaller
lines-smaller g c = omega (arith, c.go_on.ensures.falls (none-unless_some _ c.in_default.not-Some))
