use Rattle.std.proofs.Common.{ap, ◌∙◌, reverse}
use Rattle.std.proofs.lemmas.List.{take_rest}
use Rattle.sgt_graph.proofs.walking.turned.Goals as goal

pub returns : goal.returns
returns c = (
  c.in-Some.at,
  c.in-Some.ensures.some,
  c.reverse.ensures.items
      ∙ ap reverse (c.in_ok-part.ensures.items ∙ take_rest c.args.walk.now c.in-Some.at),
)
