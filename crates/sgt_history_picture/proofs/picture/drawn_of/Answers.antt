use Rattle.std.proofs.Common.{◌≤◌, ◌∙◌, length, sym, take, arith}
use Rattle.std.proofs.lemmas.List.{length-take, take-take, take_all}
use Rattle.sgt_history_picture.specs.Drawn.{most_steps}
use Rattle.sgt_history_picture.proofs.picture.drawn_of.Goals as goal

pub returns : goal.returns
returns c =
    let most = c.min-most.result in
    let few : most ≤ 200 = omega (arith, c.min-most.ensures) in
    let all : length (take 200 c.args.steps.now) ≤ most =
    omega (arith, c.min-most.ensures, length-take 200 c.args.steps.now) in
    sym (take-take most 200 c.args.steps.now few) ∙ take_all most (take 200 c.args.steps.now) all
