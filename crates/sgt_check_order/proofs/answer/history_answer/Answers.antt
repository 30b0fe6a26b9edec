use Rattle.sgt_history.specs.History.{closed_of}
use Rattle.sgt_check_order.proofs.Ending.{judged-if}
use Rattle.sgt_check_order.proofs.answer.history_answer.Goals as goal

pub faulty_answer-requires : goal.faulty_answer-requires
faulty_answer-requires g c = rw c.in-Faulty.is at c.in_ok-judged.ensures

pub named_answer-requires : goal.named_answer-requires
named_answer-requires g c = let is = rw c.in-Faultless.is at c.in_ok-judged.ensures in is.faultless

pub returns-in_ok-answer-in-Faultless-clause-answer : goal.returns-in_ok-answer-in-Faultless-clause-answer
returns-in_ok-answer-in-Faultless-clause-answer g c = λ js are right.
    let a = c.in_ok-answer-in-Faultless.answer in
    judged-if (g.R.Source.tells c.args.reader.now) js c.args.setting.now (closed_of c.args.history.now)
    c.in_ok-named-in-Faultless.named a.outcome a.text.items (c.in_ok-named-in-Faultless.ensures.named js are)
    (λ ks bytes named. c.in_ok-answer-in-Faultless.ensures ks bytes named right)
