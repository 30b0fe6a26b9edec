use Rattle.sgt_explain.proofs.Telling.{wrote-front, wrote-of, wrote-plain}
use Rattle.sgt_explain.proofs.engine.explain.Goals as goal

pub returns-clause-answer : goal.returns-clause-answer
returns-clause-answer g c =
    wrote-plain c.args.asked (g.R.Source.tells c.args.reader.now) c.in_ok-front.front.verdict
    c.in_ok-front.front.text.items c.in_ok-front.ensures.verdict _ _ c.explain_front.result
    c.explain_front.ensures.answer

pub returns-clause-asked : goal.returns-clause-asked
returns-clause-asked g c =
    wrote-of c.args.asked (g.R.Source.tells c.args.reader.now) c.in_ok-front.front.verdict
    c.in_ok-front.front.text.items c.in_ok-front.ensures.verdict _ _ c.explain_front.result
    c.explain_front.ensures.answer

pub returns-clause-front : goal.returns-clause-front
returns-clause-front g c =
    wrote-front c.args.asked (g.R.Source.tells c.args.reader.now) c.in_ok-front.front.verdict
    c.in_ok-front.front.text.items c.in_ok-front.ensures.verdict _ _ c.explain_front.result
    c.explain_front.ensures.front
