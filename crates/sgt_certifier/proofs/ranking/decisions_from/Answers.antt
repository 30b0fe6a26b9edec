use Rattle.std.proofs.Common.{◌<◌, length, arith}
use Rattle.std.proofs.lemmas.Grind.{common_steps}
use Rattle.std.proofs.lemmas.List.Elements.{All-rest}
use Rattle.sgt_certifier.specs.Certifier.{ruled}
use Rattle.sgt_certifier.specs.Judged.{ruling_from}
use Rattle.sgt_certifier.proofs.ranking.decisions_from.Goals as goal

pub loop-ruling-preserved : goal.loop-ruling-preserved
loop-ruling-preserved c = record {
  decisions = grind (arith, common_steps);
  below = All-rest (λ r. ruled (ruling_from r) < length c.args.ranks.now) c.in-Some.ruling _ _
      c.in-Some.ensures.steps.0 c.loop-ruling.invariant.below;
}
