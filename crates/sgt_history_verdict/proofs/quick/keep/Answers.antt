use Rattle.std.proofs.Common.{Option, None, sym, arith}
use Rattle.std.proofs.lemmas.Option.{slice_get_within}
use Rattle.sgt_history_verdict.specs.declared.step.Step.{Step}
use Rattle.sgt_history_verdict.proofs.Telling.{kept-none, kept-one}
use Rattle.sgt_history_verdict.proofs.quick.keep.Goals as goal

pub returns-then-at-best : goal.returns-then-at-best
returns-then-at-best c = λ touches pairs behind n pair at of along are.
    let d : Option Step = None in
    kept-one touches pairs c.args.ranks.now behind c.args.best.now n pair c.args.step at of are d c.least.result along
    c.if-at-best.true c.least.ensures.one c.least.ensures.here c.least.ensures.old

pub returns-else-at-best : goal.returns-else-at-best
returns-else-at-best c = λ touches pairs behind n pair at of along are.
    kept-none touches pairs c.args.ranks.now behind c.args.best.now n pair c.args.step at of are
    (λ line o there is. omega (arith, slice_get_within c.args.best.now line o there, is.0, c.if-at-best.false))
