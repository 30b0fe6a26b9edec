use Rattle.sgt_c.proofs.Wrote.{measured-exact}
use Rattle.sgt_c.proofs.histories.sgt_check_len.Goals as goal

pub returns-clause-exact : goal.returns-clause-exact
returns-clause-exact c = λ checked.
    measured-exact c.args.bytes.now c.measure.result c.check_text.result c.measure.new.text_len
    c.check_text.ensures.text c.measure.ensures.ok c.measure.ensures.err checked
