use Rattle.sgt_serial.proofs.engine.serial.Goals as goal

pub returns-clause-answer : goal.returns-clause-answer
returns-clause-answer g c =
    c.write_answer.ensures.answer (g.R.Source.tells c.args.reader.now) c.in_ok-audited.ensures.audited

pub returns-clause-front : goal.returns-clause-front
returns-clause-front g c =
    c.write_answer.ensures.front (g.R.Source.tells c.args.reader.now) c.in_ok-audited.ensures.audited
