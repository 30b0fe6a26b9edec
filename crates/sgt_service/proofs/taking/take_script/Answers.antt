use Rattle.std.proofs.Common.{inl, refl}
use Rattle.sgt_service.proofs.Placing.{not_over}
use Rattle.sgt_service.proofs.taking.take_script.Goals as goal

pub returns-then-not-are_placed : goal.returns-then-not-are_placed
returns-then-not-are_placed c = (
  inl (not_over c.args.sites.now c.args.line.now c.in-Ok.script c.in-Ok.ensures.0 c.in-Ok.ensures.1 (λ all. let e =
      c.if-not-are_placed.ensures.1 all in cc)),
  refl,
)
