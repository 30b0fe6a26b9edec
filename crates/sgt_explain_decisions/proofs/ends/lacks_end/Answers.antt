use Rattle.sgt_names.proofs.Lists.{All_in}
use Rattle.sgt_explain_decisions.specs.Ends.{HasEnd}
use Rattle.sgt_explain_decisions.proofs.ends.lacks_end.Goals as goal

pub returns-then-is_among-clause-has : goal.returns-then-is_among-clause-has
returns-then-is_among-clause-has c = λ all false. All_in (HasEnd c.args.entries.now) c.args.ended.now c.args.tx all
    (c.is_among.ensures c.if-is_among.true)
