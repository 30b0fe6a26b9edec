use Rattle.std.proofs.Common.{◌∙◌, arith}
use Rattle.std.proofs.lemmas.List.{get_or_default}
use Rattle.sgt_graph.proofs.walking.place_of.Goals as goal

pub returns-clause-none : goal.returns-clause-none
returns-clause-none c at =
    c.loop-at.invariant at.0 (omega (arith, at.1, c.loop-at-test.false))
    (get_or_default c.args.walk.now at.0 0 c.args.here at.1 ∙ at.2)
