use Rattle.std.proofs.Common.{◌∙◌, arith, refl}
use Rattle.sgt_pipe.proofs.Going.{hears_none, hears_then}
use Rattle.sgt_serve.proofs.Openings.{opens_none}
use Rattle.sgt_serve.proofs.opening.read_sites.Goals as goal

pub lines-init : goal.lines-init
lines-init g c = record {
  has = c.requires.has;
  hears = hears_none _ _ _;
  writer = refl;
  quiet = refl;
  asks = refl;
}

pub lines-preserved : goal.lines-preserved
lines-preserved g c = record {
  has = opens_none _ _ _ _ _ c.in_default.not-Some c.in_ok-opened.ensures.opens;
  hears = hears_then _ _ _ _ _ _ _ _ _ c.lines.invariant.hears c.in_ok-opened.ensures.hears;
  writer = c.in_ok-opened.ensures.writer ∙ c.lines.invariant.writer;
  quiet = omega (arith, c.in_ok-opened.ensures.notes, c.lines.invariant.quiet);
  asks = c.in_ok-opened.ensures.asks ∙ c.lines.invariant.asks;
}
